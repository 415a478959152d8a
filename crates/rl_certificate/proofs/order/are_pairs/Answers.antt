use Rattle.std.proofs.Common.{◌≡◌, ℕ, ◌+◌, ◌≤◌, IsTrue, false, refl, ap, subst, arith}
use native.Mathlib.Decide.{dec_lt}
use Rattle.rl_certificate.specs.declared.certificate.Apart.{Apart}
use Rattle.rl_certificate.specs.Certificates.{pairs_of}
use Rattle.rl_certificate.proofs.OrderLaws.{IsLeft, left_first, all_pairs, pairs_differ, pairs_longer, pairs_done, pairs_shorter, leb_from, leb_to}
use Rattle.rl_certificate.proofs.order.are_pairs.Goals as goal
use Rattle.rl_certificate.proofs.order.are_pairs.Goals.{then-pair-states-via-then-pair-states, then-pair-states-via-else-pair-states+then-p-pair, then-pair-states-via-else-pair-states+else-p-pair+then-p-pair-2}

abbrev pair_of : Apart → ℕ × ℕ
pair_of p = (p.low, p.high)

pub loop-p-init : goal.loop-p-init
loop-p-init c = record {
  ordered = omega arith;
  next = λ h. refl;
  left = subst (IsLeft pair_of c.args.apart.now (pairs_of c.args.states) 0) (all_pairs c.args.states c.requires.some) (left_first pair_of c.args.apart.now (pairs_of c.args.states));
}

pub returns-then-pair-states : goal.returns-then-pair-states
returns-then-pair-states c = (
  λ (t : IsTrue false). cc,
  λ e. absurd (elim c.then-pair-states.branch [
    | then-pair-states-via-then-pair-states w ↦ pairs_longer pair_of c.args.apart.now (pairs_of c.args.states) c.args.states c.loop-p.p-index c.loop-p.pair.low c.loop-p.pair.high c.p-item.result
        c.loop-p-test.true c.p-item.is w.if-pair-states.true (let n : c.loop-p.pair.high ≡ c.loop-p.pair.low + 1 = c.loop-p.invariant.next w.if-pair-states.true in let m : c.args.states ≤ c.loop-p.pair.high = w.if-pair-states.true in omega arith) c.loop-p.invariant.left e
    | then-pair-states-via-else-pair-states+then-p-pair w ↦ pairs_differ pair_of c.args.apart.now (pairs_of c.args.states) c.args.states c.loop-p.p-index c.loop-p.pair.low c.loop-p.pair.high c.p-item.result
        c.loop-p-test.true c.p-item.is w.if-pair-states.false (λ q. w.if-p-pair.true (ap (λ (z : ℕ × ℕ). z.0) q)) c.loop-p.invariant.left e
    | then-pair-states-via-else-pair-states+else-p-pair+then-p-pair-2 w ↦ pairs_differ pair_of c.args.apart.now (pairs_of c.args.states) c.args.states c.loop-p.p-index c.loop-p.pair.low c.loop-p.pair.high c.p-item.result
        c.loop-p-test.true c.p-item.is w.if-pair-states.false (λ q. w.if-p-pair-2.true (ap (λ (z : ℕ × ℕ). z.1) q)) c.loop-p.invariant.left e
  ]),
)

pub returns : goal.returns
returns c = (
  λ t. let m : c.args.states ≤ c.loop-p.pair.high = leb_from c.args.states c.loop-p.pair.high t in
      let n : c.loop-p.pair.high ≡ c.loop-p.pair.low + 1 = c.loop-p.invariant.next m in
      pairs_done pair_of c.args.apart.now (pairs_of c.args.states) c.args.states c.loop-p.p-index c.loop-p.pair.low c.loop-p.pair.high c.loop-p-test.false m (omega arith) c.loop-p.invariant.left,
  λ e. leb_to c.args.states c.loop-p.pair.high (elim (dec_lt c.loop-p.pair.high c.args.states) [
    | yes p ↦ absurd (pairs_shorter pair_of c.args.apart.now (pairs_of c.args.states) c.args.states c.loop-p.p-index c.loop-p.pair.low c.loop-p.pair.high c.loop-p-test.false p c.loop-p.invariant.left e)
    | no n ↦ omega arith
  ]),
)
