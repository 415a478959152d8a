use Rattle.std.proofs.Common.{◌≡◌, map, take}
use Rattle.rl_names.specs.Expressions.{negation_of}
use Rattle.rl_names.proofs.puts.negations.Given as goal

abbrev pub invariant-loop-one : goal.invariant-loop-one
invariant-loop-one l = l.found ≡ map negation_of (take l.one-index l.all)
