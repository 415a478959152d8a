use Rattle.std.proofs.Common.{◌≡◌, ◌⊎◌, length, take, drop, None, inl, inr, sym, arith}
use Rattle.std.proofs.lemmas.Bool.{cases_order}
use Rattle.rl_lexical.specs.Signs.{sign_before}
use Rattle.rl_lex.proofs.SignLaws.{none_at_first, none_here}
use Rattle.rl_lex.proofs.front.sign.Goals as goal

pub loop-n-init : goal.loop-n-init
loop-n-init c =
    let least : (c.min-n.result ≡ length c.args.text.now) ⊎ (c.min-n.result ≡ 6) =
    elim (cases_order (length c.args.text.now) 6) [
      | inl e ↦ inr (omega (arith, c.min-n.ensures))
      | inr o ↦ elim o [ inl l ↦ inl (omega (arith, c.min-n.ensures)) | inr l ↦ inr (omega (arith, c.min-n.ensures)) ]
    ] in
    record {
      within = omega (arith, c.min-n.ensures);
      longer = none_at_first c.args.in_scanner c.args.text.now c.min-n.result least;
    }

pub loop-n-preserved : goal.loop-n-preserved
loop-n-preserved c =
    let told : sign_before c.args.in_scanner c.split_at.result.1.now c.split_at.result.0.now ≡ None = sym c.in-None.ensures in
    let here : sign_before c.args.in_scanner (drop c.loop-n.n c.args.text.now) (take c.loop-n.n c.args.text.now) ≡ None =
    rw c.split_at.ensures.back at (rw c.split_at.ensures.front at told) in
    record {
      within = omega (arith, c.loop-n.invariant.within);
      longer = none_here c.args.in_scanner c.args.text.now c.loop-n.n (omega (arith, c.loop-n-test.true)) c.loop-n.invariant.longer here;
    }
