use Rattle.std.proofs.Common.{◌≡◌, ◌||◌, ◌<◌, take, drop, All}
use Rattle.rl_explore.specs.Rows.{row_edges, row_jams}
use Rattle.rl_explore.proofs.row.at_pieces.Given as goal

abbrev pub invariant-loop-p : goal.invariant-loop-p
invariant-loop-p g l = record {
  found : l.found.items ≡ row_edges (g.O.Operator.auto l.op) l.c (take l.p-index l.pieces);
  cycle : row_jams (g.O.Operator.auto l.op) (g.O.Operator.jams l.op) l.c l.pieces ≡ (l.cycle || row_jams (g.O.Operator.auto l.op) (g.O.Operator.jams l.op) l.c (drop l.p-index l.pieces));
  few : All (λ p. (g.O.Operator.auto l.op).asked l.c p.lo < 256) (take l.p-index l.pieces);
}
