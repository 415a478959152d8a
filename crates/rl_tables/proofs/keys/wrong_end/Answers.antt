use Rattle.std.proofs.Common.{arith, ap, pos, length, inl, inr}
use Rattle.std.specs.Prelude.{◌+ℤ◌, ◌<ℤ◌, ◌≤ℤ◌, slice_get}
use Rattle.std.proofs.lemmas.Bool.{cases_lt}
use Rattle.std.proofs.lemmas.Int.{ints}
use Rattle.rl_tables.specs.KeyParts.{EndSays}
use Rattle.rl_tables.proofs.KeyLaws.{if_any, no_end, no_end_says}
use Rattle.rl_tables.proofs.keys.wrong_end.Goals as goal

pub loop-place-init : goal.loop-place-init
loop-place-init c = λ k lt.
    let low : pos k <ℤ (c.args.first +ℤ c.args.singles) = (let b = c.clipped-from.ensures.below k lt in omega (arith, ints, b)) in
    if_any (slice_get c.args.a.now.trans_keys k) (EndSays c.args.a.now c.args.s k) (λ key. no_end_says c.args.a.now c.args.s k key (no_end c.args.a.now c.args.s k c.args.first c.args.singles c.args.ranges c.requires.first_is c.requires.singles_are c.requires.ranges_are (λ h. absurd (omega (arith, ints, h, low)))))

pub is_end-requires-clause-to : goal.is_end-requires-clause-to
is_end-requires-clause-to c =
    let last = (c.args.first +ℤ c.args.singles) +ℤ (c.args.ranges +ℤ c.args.ranges) in
    let high : pos c.loop-place.place <ℤ last = (let b = c.clipped-to.ensures.below c.loop-place.place (omega arith) in omega (arith, ints, b)) in
    rw c.requires.ranges_are (omega (arith, ints, high))

pub returns : goal.returns
returns c = λ k lt.
    let len = ap length c.as_slice-keys.ensures in
    let last = (c.args.first +ℤ c.args.singles) +ℤ (c.args.ranges +ℤ c.args.ranges) in
    elim (cases_lt k c.loop-place.place) [
      | inl less ↦ c.loop-place.invariant k less
      | inr ge ↦
          let high : last ≤ℤ pos k = (let b = c.clipped-to.ensures.above k (omega arith) (omega (arith, len)) in omega (arith, ints, b)) in
          if_any (slice_get c.args.a.now.trans_keys k) (EndSays c.args.a.now c.args.s k) (λ key. no_end_says c.args.a.now c.args.s k key (no_end c.args.a.now c.args.s k c.args.first c.args.singles c.args.ranges c.requires.first_is c.requires.singles_are c.requires.ranges_are (λ h. high)))
    ]
