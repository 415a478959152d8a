use Rattle.std.proofs.Common.{◌≡◌}
use Rattle.rl_made.specs.Made as spec
use Rattle.rl_made.proofs.input.made_input.Given as goal

abbrev pub invariant-loop-number : goal.invariant-loop-number
invariant-loop-number l = l.input.items ≡ spec.made_input l.number
