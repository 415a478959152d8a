use Rattle.std.proofs.Common.{◌≡◌, drop}
use Rattle.rl_names.specs.Answers.{each}
use Rattle.rl_names.specs.Expressions.{put_read}
use Rattle.rl_names.specs.Scopes.{kept}
use Rattle.rl_names.proofs.ResultLaws.{behind}
use Rattle.rl_names.proofs.puts.puts.Given as goal

abbrev pub invariant-loop-one : goal.invariant-loop-one
invariant-loop-one l = behind l.found (each (put_read (kept l.scope)) (drop l.one-index l.all)) ≡ each (put_read (kept l.scope)) l.all
