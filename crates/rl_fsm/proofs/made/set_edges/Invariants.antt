use Rattle.std.proofs.Common.{◌≡◌, ◌++◌, drop, map}
use Rattle.rl_fsm.specs.Made.{set_edge, pieces_in}
use Rattle.rl_fsm.proofs.made.set_edges.Given as goal

abbrev pub invariant-loop-p : goal.invariant-loop-p
invariant-loop-p l = map set_edge (pieces_in l.set l.pieces) ≡ l.edges.items ++ map set_edge (pieces_in l.set (drop l.p-index l.pieces))
