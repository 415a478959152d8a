use Rattle.std.proofs.Common.{◌≡◌, drop}
use Rattle.rl_names.specs.Answers.{each}
use Rattle.rl_names.specs.Expressions.{repetition_read}
use Rattle.rl_names.proofs.ResultLaws.{behind}
use Rattle.rl_names.proofs.puts.repetitions.Given as goal

abbrev pub invariant-loop-one : goal.invariant-loop-one
invariant-loop-one l = behind l.found (each repetition_read (drop l.one-index l.all)) ≡ each repetition_read l.all
