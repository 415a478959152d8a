use Rattle.rl_certificate.proofs.SearchStates.{AreFirst}
use Rattle.rl_certificate.proofs.reach.accesses.Given as goal

abbrev pub invariant-loop-state : goal.invariant-loop-state
invariant-loop-state l = AreFirst l.min l.access.items l.state
