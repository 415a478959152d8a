use Rattle.std.proofs.Common.{◌≡◌, ◌∙◌, ◌++◌, ◌||◌, Bool, true, false, append_assoc, append-nil, sym, ap}
use Rattle.rl_explore.specs.Rows.{edge_at, edges_below, jams_at, jams_below}
use Rattle.rl_explore.proofs.Edges.{edges_none, edges_more, jams_none, jams_more}
use Rattle.rl_explore.proofs.row.add_piece.Goals as goal
use Rattle.rl_explore.proofs.row.add_piece.Goals.{then-cycle, else-cycle}

pub loop-t-init : goal.loop-t-init
loop-t-init g c =
    let A = g.O.Operator.auto c.args.op.now in
    record {
      found = sym (ap (λ w. c.args.found.now.items ++ w) (edges_none A c.args.c.now c.args.range) ∙ append-nil c.args.found.now.items);
      cycle = sym (jams_none A c.args.c.now c.args.range (g.O.Operator.jams c.args.op.now));
    }

either_first : (a b : Bool) → a ≡ true → true ≡ (a || b)
either_first a b e = ap (λ w. w || b) (sym e)

either_second : (a b : Bool) → a ≡ false → b ≡ (a || b)
either_second a b e = ap (λ w. w || b) (sym e)

pub loop-t-preserved : goal.loop-t-preserved
loop-t-preserved g c =
    let A = g.O.Operator.auto c.args.op.now in
    let J = g.O.Operator.jams c.args.op.now in
    let s = c.args.c.now in
    let r = c.args.range in
    let t = c.loop-t.t in
    record {
      found = c.in_ok-here.ensures.found ∙ ap (λ w. w ++ edge_at A s r t) c.loop-t.invariant.found
          ∙ append_assoc c.args.found.now.items (edges_below A s r t) (edge_at A s r t)
          ∙ ap (λ w. c.args.found.now.items ++ w) (sym (edges_more A s r t));
      cycle = elim c.if-cycle.branch [
        | then-cycle w ↦ w.cycle-is ∙ w.if-cycle.true ∙ either_first (jams_below A J s r t) (jams_at A J s r t) (sym c.loop-t.invariant.cycle ∙ w.if-cycle.true) ∙ sym (jams_more A s r J t)
        | else-cycle w ↦ w.cycle-is ∙ c.in_ok-here.ensures.cycle ∙ either_second (jams_below A J s r t) (jams_at A J s r t) (sym c.loop-t.invariant.cycle ∙ w.if-cycle.false) ∙ sym (jams_more A s r J t)
      ];
    }
