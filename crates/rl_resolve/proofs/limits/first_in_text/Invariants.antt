use Rattle.std.proofs.Common.{◌≡◌, drop}
use Rattle.rl_resolve.specs.Limits.{first_in_text}
use Rattle.rl_resolve.proofs.limits.first_in_text.Given as goal

abbrev pub invariant-loop-step : goal.invariant-loop-step
invariant-loop-step l = first_in_text (drop l.step-index l.steps) l.all ≡ first_in_text l.steps l.all
