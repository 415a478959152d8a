use Rattle.std.proofs.Common.{IsTrue, false, arith}
use native.Mathlib.Decide.{dec_lt}
use borrow.Author.Tests.{eqb-true, eq-eqb}
use Rattle.rl_certificate.specs.declared.certificate.Access.{Access}
use Rattle.rl_certificate.specs.Certificates.{states_of}
use Rattle.rl_certificate.proofs.OrderLaws.{states_more, states_differ, states_longer, states_done, states_shorter}
use Rattle.rl_certificate.proofs.order.are_states.Goals as goal
use Rattle.rl_certificate.proofs.order.are_states.Goals.{then-state-states-via-then-state-states, then-state-states-via-else-state-states+then-a-state}

pub returns-then-state-states : goal.returns-then-state-states
returns-then-state-states c = (
  λ (t : IsTrue false). cc,
  λ e. absurd (elim c.then-state-states.branch [
    | then-state-states-via-then-state-states w ↦ states_longer (λ (a : Access). a.state) c.args.access.now (states_of c.args.states) c.args.states c.loop-a.a-index c.loop-a.state c.a-item.result
        c.loop-a-test.true c.a-item.is w.if-state-states.true c.loop-a.invariant.left e
    | then-state-states-via-else-state-states+then-a-state w ↦ states_differ (λ (a : Access). a.state) c.args.access.now (states_of c.args.states) c.args.states c.loop-a.a-index c.loop-a.state c.a-item.result
        c.loop-a-test.true c.a-item.is w.if-state-states.false w.if-a-state.true c.loop-a.invariant.left e
  ]),
)

pub loop-a-preserved : goal.loop-a-preserved
loop-a-preserved c = record {
  within = omega arith;
  left = states_more (λ (a : Access). a.state) c.args.access.now (states_of c.args.states) c.args.states c.loop-a.a-index c.loop-a.state c.a-item.result
      c.loop-a-test.true c.a-item.is c.if-state-states.false c.if-a-state.false c.loop-a.invariant.left;
}

pub returns : goal.returns
returns c = (
  λ t. states_done (λ (a : Access). a.state) c.args.access.now (states_of c.args.states) c.args.states c.loop-a.a-index c.loop-a.state
      c.loop-a-test.false (eqb-true c.loop-a.state c.args.states t) c.loop-a.invariant.left,
  λ e. eq-eqb c.loop-a.state c.args.states (elim (dec_lt c.loop-a.state c.args.states) [
    | yes p ↦ absurd (states_shorter (λ (a : Access). a.state) c.args.access.now (states_of c.args.states) c.args.states c.loop-a.a-index c.loop-a.state c.loop-a-test.false p c.loop-a.invariant.left e)
    | no n ↦ omega arith
  ]),
)
