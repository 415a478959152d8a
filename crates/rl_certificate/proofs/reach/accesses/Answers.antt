use Rattle.std.proofs.Common.{◌≡◌, ◌+◌, ◌<◌, ◌≤◌, true, length, subst, sym, arith}
use Rattle.rl_certificate.specs.Reaches.{is_met}
use Rattle.rl_certificate.proofs.SearchStates.{AreFirst, each_met, first_more}
use Rattle.rl_certificate.proofs.reach.accesses.Goals as goal

pub first_access-requires-clause-met : goal.first_access-requires-clause-met
first_access-requires-clause-met c =
    let above : 1 ≤ c.loop-state.state = c.loop-state.invariant.above in
    let below : c.loop-state.state < length c.args.min.now.states = subst
    (λ n. c.loop-state.state < n) c.states-state-end.ensures.count c.loop-state-test.true in
    subst (λ met. is_met met c.loop-state.state ≡ true) (sym c.deref.ensures.value)
    (each_met c.args.min.now c.in_ok-met.met.items c.in_ok-met.ensures c.requires c.loop-state.state (omega arith) below)

pub loop-state-preserved : goal.loop-state-preserved
loop-state-preserved c =
    subst (λ access. AreFirst c.args.min.now access (c.loop-state.state + 1)) (sym c.in_ok-push.ensures)
    (first_more c.args.min.now c.loop-state.access.items c.loop-state.state c.in_ok-first.first c.loop-state.invariant c.in_ok-first.ensures.leads
    c.in_ok-first.ensures.first)
