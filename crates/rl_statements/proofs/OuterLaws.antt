-- The fifth statement at the outer level.
use Rattle.std.proofs.Common.{◌≡◌, ℕ, zero, suc, ◌+◌, Bool, true, false, cond, eqb, List, [], ◌∷◌, Option, Some, None, inl, inr, refl, sym, ap, ◌∙◌, arith}
use Rattle.std.specs.Prelude.{filter, slice_get}
use Rattle.std.specs.Option.{option_map}
use Rattle.std.proofs.lemmas.Bool.{cases_Bool, ne_eqb}
use Rattle.std.proofs.lemmas.Bool.Decides.{nat_tests}
use Rattle.rl_code.specs.declared.said.Said.{Said}
use Rattle.rl_code.specs.Reading.{is_outer, ends, up_to_end, fifth_outer}
use Rattle.rl_statements.specs.Outer.{fifth_behind}

first_of : (s : Said) (ss : List Said) (b : Bool) → option_map (λ (s : Said). s.from) (slice_get (cond b (s ∷ []) (s ∷ up_to_end ss)) 0) ≡ Some s.from
first_of s ss true = refl
first_of s ss false = refl

-- of the fifth, so many are before and so many to come
fifth_at : (k seen : ℕ) (ss : List Said) → seen + k ≡ 4 → fifth_behind seen ss ≡ option_map (λ (s : Said). s.from) (slice_get (up_to_end (filter is_outer ss)) k)
fifth_at k seen [] e = refl
fifth_at zero seen (s ∷ ss) e = elim (cases_Bool (is_outer s)) [
  | inr miss ↦ rw miss (fifth_at zero seen ss e)
  | inl hit ↦
      let four : eqb seen 4 ≡ true = grind (arith, nat_tests, e) in
      rw hit (rw four (sym (first_of s (filter is_outer ss) (ends s))))
]
fifth_at (suc k) seen (s ∷ ss) e = elim (cases_Bool (is_outer s)) [
  | inr miss ↦ rw miss (fifth_at (suc k) seen ss e)
  | inl hit ↦
      let few : eqb seen 4 ≡ false = ne_eqb seen 4 (λ same. absurd (omega arith)) in
      elim (cases_Bool (ends s)) [
        | inl last ↦ rw hit (rw few (rw last refl))
        | inr goes_on ↦
            let one : (seen + 1) + k ≡ 4 = omega (arith, e) in
            rw hit (rw few (rw goes_on (fifth_at k (seen + 1) ss one)))
      ]
]

pub fifth_is : (ss : List Said) → fifth_behind 0 ss ≡ fifth_outer ss
fifth_is ss = (let four : 0 + 4 ≡ 4 = omega arith in fifth_at 4 0 ss four)
