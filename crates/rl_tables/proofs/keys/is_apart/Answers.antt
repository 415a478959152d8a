use Rattle.std.proofs.Common.{◌∙◌, sym, arith, ap, pos, length, inl, inr, rules}
use Rattle.std.specs.Prelude.{◌+ℤ◌, ◌<ℤ◌, ◌≤ℤ◌, ◌↔◌, IsTrue, IsSomeAnd, slice_get}
use Rattle.std.proofs.lemmas.Bool.{cases_lt}
use Rattle.std.proofs.lemmas.Int.{ints, to_z-of_z}
use Rattle.rl_arrays.specs.KeyRules.{IsSingle, IsOutside}
use Rattle.rl_tables.proofs.KeyLaws.{gap, single_from, no_single, outside_past}
use Rattle.rl_tables.proofs.keys.is_apart.Goals as goal

pub returns-then-not-is_outside : goal.returns-then-not-is_outside
returns-then-not-is_outside c =
    let fits = c.ranges.first in
    let fits' = c.ranges.singles in
    let fits'' = c.ranges.low in
    let low : c.args.first ≤ℤ pos c.loop-other.other = (let b = c.clipped-from.ensures.above c.loop-other.other (omega arith) (omega arith) in omega (arith, ints, b)) in
    let high : pos c.loop-other.other <ℤ (c.args.first +ℤ c.args.singles) = (let b = c.clipped-to.ensures.below c.loop-other.other (omega arith) in omega (arith, ints, b)) in
    let g = gap c.args.first c.loop-other.other low in
    let to : IsSomeAnd (slice_get c.args.a.now.single_lengths c.args.s) (λ singles. pos c.loop-other.other <ℤ (c.args.first +ℤ singles)) = rw c.requires.singles_are high in
    let here : IsSingle c.args.a.now c.args.s g.by c.loop-other.other = single_from c.args.a.now c.args.s g.by c.loop-other.other c.args.first c.requires.state c.requires.first_is to g.is in
    let outside : IsTrue c.is_outside.result ↔ IsOutside c.args.a.now.trans_keys c.args.place c.args.low c.loop-other.other = rw c.as_slice-keys.ensures at (simp to_z-of_z at c.is_outside.ensures) in
    (λ t. absurd cc, λ all. sym c.if-not-is_outside.true ∙ outside.1 (all g.by c.loop-other.other here))

pub returns : goal.returns
returns c =
    let fits = c.ranges.low in
    let len = ap length c.as_slice-keys.ensures in
    let has = length c.as_slice-keys.result.now in (
      λ t r other k. elim (cases_lt other c.loop-other.other) [
        | inl less ↦ simp to_z-of_z at (c.loop-other.invariant r other less k)
        | inr ge ↦ elim (cases_lt other has) [
          | inl lt ↦
              let high : (c.args.first +ℤ c.args.singles) ≤ℤ pos other = (let b = c.clipped-to.ensures.above other (omega arith) lt in omega (arith, ints, b)) in
              absurd (no_single c.args.a.now c.args.s other c.args.first c.args.singles c.requires.first_is c.requires.singles_are (λ h. high) r k)
          | inr past ↦ outside_past c.args.a.now.trans_keys c.args.place other c.args.low (omega (arith, len))
        ]
      ],
      λ all. search rules,
    )
