use Rattle.std.proofs.Common.{◌∙◌, sym, ap, subst}
use Rattle.std.proofs.Common.{ℕ, ◌<◌}
use Rattle.std.specs.List.{All}
use Rattle.rl_types.specs.KeyRange.{Range}
use Rattle.rl_sets.specs.Sets.{In}
use Rattle.rl_fsm.specs.Pieces.{ArePieces}
use Rattle.rl_fsm.proofs.PieceLaws.{All-In}
use Rattle.rl_explore.specs.Rows.{IsRow, row_edges, row_jams}
use Rattle.rl_explore.proofs.RowLaws.{row_is, cycle_is, clear_is}
use Rattle.rl_explore.proofs.row.row_of.Goals as goal

pub returns-clause-row : goal.returns-clause-row
returns-clause-row g c =
    let A = g.O.Operator.auto c.args.op.now in
    let J = g.O.Operator.jams c.args.op.now in
    let s = c.args.c.now in
    let ps = c.in_ok-pieces.pieces.items in
    let are : ArePieces c.in_ok-ranges.ranges.items ps = subst (λ w. ArePieces w ps) c.deref.ensures.value c.in_ok-pieces.ensures in
    let small : (p : Range) → In p ps → A.asked s p.lo < 256 = λ p i. All-In (λ p. A.asked s p.lo < 256) ps p (subst (All (λ p. A.asked s p.lo < 256)) c.deref-2.ensures.value c.in_ok-row.ensures.few) i in
    subst (IsRow A s) (sym (c.in_ok-row.ensures.found ∙ ap (row_edges A s) c.deref-2.ensures.value)) (row_is A J s c.in_ok-ranges.ranges.items c.in_ok-ranges.ensures ps are small)

pub returns-clause-cycle : goal.returns-clause-cycle
returns-clause-cycle g c e =
    let A = g.O.Operator.auto c.args.op.now in
    let J = g.O.Operator.jams c.args.op.now in
    let s = c.args.c.now in
    let ps = c.in_ok-pieces.pieces.items in
    let are : ArePieces c.in_ok-ranges.ranges.items ps = subst (λ w. ArePieces w ps) c.deref.ensures.value c.in_ok-pieces.ensures in
    let small : (p : Range) → In p ps → A.asked s p.lo < 256 = λ p i. All-In (λ p. A.asked s p.lo < 256) ps p (subst (All (λ p. A.asked s p.lo < 256)) c.deref-2.ensures.value c.in_ok-row.ensures.few) i in
    cycle_is A J s c.in_ok-ranges.ranges.items c.in_ok-ranges.ensures ps are small (sym (c.in_ok-row.ensures.cycle ∙ ap (row_jams A J s) c.deref-2.ensures.value) ∙ e)

pub returns-clause-clear : goal.returns-clause-clear
returns-clause-clear g c e =
    let A = g.O.Operator.auto c.args.op.now in
    let J = g.O.Operator.jams c.args.op.now in
    let s = c.args.c.now in
    let ps = c.in_ok-pieces.pieces.items in
    let are : ArePieces c.in_ok-ranges.ranges.items ps = subst (λ w. ArePieces w ps) c.deref.ensures.value c.in_ok-pieces.ensures in
    let small : (p : Range) → In p ps → A.asked s p.lo < 256 = λ p i. All-In (λ p. A.asked s p.lo < 256) ps p (subst (All (λ p. A.asked s p.lo < 256)) c.deref-2.ensures.value c.in_ok-row.ensures.few) i in
    clear_is A J s c.in_ok-ranges.ranges.items c.in_ok-ranges.ensures ps are small (sym (c.in_ok-row.ensures.cycle ∙ ap (row_jams A J s) c.deref-2.ensures.value) ∙ e)
