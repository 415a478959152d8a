use Rattle.std.proofs.Common.{◌≡◌, ℕ, ◌<◌, false}
use Rattle.rl_fsm.specs.Graphs.{edges_at}
use Rattle.rl_fsm.specs.Scanned.{leads_to}
use Rattle.rl_fsm.proofs.scan_fsm.is_left_for_good.Given as goal

abbrev pub invariant-loop-state : goal.invariant-loop-state
invariant-loop-state l = (i : ℕ) → i < l.state → leads_to l.machine.start (edges_at l.machine i) ≡ false
