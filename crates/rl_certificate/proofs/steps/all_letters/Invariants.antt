use Rattle.std.proofs.Common.{◌≡◌, [], drop}
use Rattle.rl_certificate.specs.Steps.{with_states}
use Rattle.rl_certificate.proofs.steps.all_letters.Given as goal

-- the letters of the states that are left give what all give
abbrev pub invariant-loop-state : goal.invariant-loop-state
invariant-loop-state l = with_states (drop l.state-index l.states) l.letters.items ≡ with_states l.states []
