use Rattle.std.proofs.Common.{List, sym, subst}
use Rattle.std.proofs.lemmas.Result.{err_from_is_err_and}
use Rattle.rl_fsm.specs.declared.edge.Edge.{Edge}
use Rattle.rl_explore.specs.Numbers.{AreNumbered}
use Rattle.rl_explore.proofs.NumberLaws.{state_is, row_overflows, full_to}
use Rattle.rl_explore.proofs.state.state_of.Goals as goal

pub returns-clause-made : goal.returns-clause-made
returns-clause-made g c =
    let A = g.O.Operator.auto c.args.op.now in
    let s = c.named-c.result.now in
    let t = c.in_ok-row.ensures in
    let p = state_is A s c.args.names.now c.numbered.new.names c.in_ok-row.field-0.row.found.items _ t.row
    (subst (λ (es : List Edge). AreNumbered c.args.names.now c.numbered.new.names c.in_ok-row.field-0.row.found.items es) (sym c.from_vec.ensures) c.in_ok-edges.ensures.numbered) t.final t.out t.marks in
    (s, c.named-c.ensures, record { state = p.0; grows = p.1; cycle = t.cycle; clear = t.clear })

pub returns-in_err-edges-clause-full : goal.returns-in_err-edges-clause-full
returns-in_err-edges-clause-full g c =
    let A = g.O.Operator.auto c.args.op.now in
    let s = c.named-c.result.now in
    let t = c.in_ok-row.ensures in
    let p = err_from_is_err_and c.from_residual-in_err-edges.result c.from_residual-in_err-edges.ensures.1 in
    rw (p.1, p.2) (full_to _ _ c.in_err-edges.field-0.0 (λ h. (s, c.named-c.ensures, row_overflows c.args.room A s c.in_ok-row.field-0.row.found.items c.args.names.now t.row h)) c.in_err-edges.ensures.full)
