use Rattle.std.proofs.Common.{◌≡◌, ◌++◌}
use Rattle.rl_explore.specs.Rows.{edges_below, jams_below}
use Rattle.rl_explore.proofs.row.add_piece.Given as goal

abbrev pub invariant-loop-t : goal.invariant-loop-t
invariant-loop-t g l = record {
  found : l.found.items ≡ l.initial.found.items ++ edges_below (g.O.Operator.auto l.op) l.c l.range l.t;
  cycle : l.cycle ≡ jams_below (g.O.Operator.auto l.op) (g.O.Operator.jams l.op) l.c l.range l.t;
}
