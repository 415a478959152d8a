use Rattle.std.proofs.Common.{◌≡◌, drop}
use Rattle.rl_replay.specs.Script.{value_of}
use Rattle.rl_script.proofs.NumberLaws.{value_behind}
use Rattle.rl_script.proofs.numbers.value_of.Given as goal

abbrev pub invariant-loop-digit : goal.invariant-loop-digit
invariant-loop-digit l = value_behind l.n (drop l.digit-index l.word) ≡ value_of l.word
