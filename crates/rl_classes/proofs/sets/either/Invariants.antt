use Rattle.std.proofs.Common.{◌≡◌, map, take}
use Rattle.rl_classes.specs.Sets.{with_value, either_of}
use Rattle.rl_classes.proofs.sets.either.Given as goal

abbrev pub invariant-loop-step : goal.invariant-loop-step
invariant-loop-step l = l.later.items ≡ map (with_value either_of) (take l.step-index l.pairs.later.items)
