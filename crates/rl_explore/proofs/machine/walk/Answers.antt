use Rattle.std.proofs.Common.{◌≡◌, ◌∙◌, ◌<◌, ◌||◌, Bool, true, false, sym, ap, subst, arith, length, slice_get}
use Rattle.std.proofs.lemmas.Result.{err_from_is_err_and}
use Rattle.rl_explore.specs.Numbers.{HasNumber}
use Rattle.rl_explore.proofs.NumberLaws.{full_to, get_In}
use Rattle.rl_explore.proofs.ExploredLaws.{explored_first, explored_more, explored_full}
use Rattle.rl_explore.proofs.machine.walk.Goals as goal
use Rattle.rl_explore.proofs.machine.walk.Goals.{then-cycle, else-cycle}

pub states-init : goal.states-init
states-init g c = rw c.new-states.ensures.items (explored_first (g.O.Operator.auto c.args.op.now) (g.O.Operator.jams c.args.op.now) c.args.room c.number.new.names c.in_ok-first.first c.in_ok-number.field-0 c.requires
    (subst (λ old. HasNumber old c.number.new.names c.in_ok-first.first c.in_ok-number.field-0) c.new-names.ensures c.in_ok-number.ensures.number) c.in_ok-first.ensures)

pub returns-in_err-made-clause-full : goal.returns-in_err-made-clause-full
returns-in_err-made-clause-full g c =
    let p = err_from_is_err_and c.from_residual-in_err-made.result c.from_residual-in_err-made.ensures.1 in
    rw (p.1, p.2) (full_to _ _ c.in_err-made.field-0.0
    (λ h. explored_full (g.O.Operator.auto c.args.op.now) (g.O.Operator.jams c.args.op.now) c.args.room c.states.names c.states.states.items c.states.cycle h.0 c.states.invariant (get_In c.states.names _ h.0 h.1) h.2)
    c.in_err-made.ensures.full)

either_first : (a b : Bool) → a ≡ true → true ≡ (a || b)
either_first a b e = ap (λ w. w || b) (sym e)

either_second : (a b : Bool) → a ≡ false → b ≡ (a || b)
either_second a b e = ap (λ w. w || b) (sym e)

pub states-preserved : goal.states-preserved
states-preserved g c =
    let at : c.len-in-states-2.result ≡ length c.states.states.items = c.len-in-states-2.ensures ∙ c.states.states.ok.0 in
    let lt : length c.states.states.items < length c.states.names = let t = c.states-test.true in let u = c.len.ensures in let v = c.len-in-states.ensures in let w = c.states.states.ok.0 in omega arith in
    let m = c.in_ok-made.ensures.made in
    let both : c.if-cycle.cycle ≡ (c.states.cycle || c.in_ok-made.made.cycle) = elim c.if-cycle.branch [
      | then-cycle w ↦ w.cycle-is ∙ w.if-cycle.true ∙ either_first c.states.cycle c.in_ok-made.made.cycle w.if-cycle.true
      | else-cycle w ↦ w.cycle-is ∙ either_second c.states.cycle c.in_ok-made.made.cycle w.if-cycle.false
    ] in
    rw c.in_ok-push.ensures
    (explored_more (g.O.Operator.auto c.args.op.now) (g.O.Operator.jams c.args.op.now) c.args.room c.states.names c.state_of.new.names c.states.states.items c.states.cycle c.if-cycle.cycle m.0 c.in_ok-made.made
    c.states.invariant lt (ap (slice_get c.states.names) (sym at) ∙ m.1) m.2 c.in_ok-made.ensures.few both)
