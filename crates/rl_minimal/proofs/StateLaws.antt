-- What holds of each state.
use Rattle.std.proofs.Common.{◌≡◌, ℕ, ◌+◌, ◌<◌, ◌≤◌, List, length, get_or, Some, refl, sym, ◌∙◌, subst, inl, inr, arith}
use Rattle.std.specs.Prelude.{slice_get}
use Rattle.std.proofs.lemmas.Bool.{cases_lt}
use Rattle.std.proofs.lemmas.Option.{get_or_from_slice_get, slice_get_within}

-- of the states before a place, and of the one there
pub one_more : {X : Type 0} → (P : ℕ → X → Type 0) (xs : List X) (i : ℕ) (x : X) → ((k : ℕ) (y : X) → k < i → slice_get xs k ≡ Some y → P k y) → x ≡ get_or xs i x → P i x → (k : ℕ) (y : X) → k < i + 1 → slice_get xs k ≡ Some y → P k y
one_more P xs i x before is here k y lt e = elim (cases_lt k i) [
  | inl less ↦ before k y less e
  | inr ge ↦
      let same : i ≡ k = omega arith in
      let found : get_or xs k x ≡ y = get_or_from_slice_get xs k y x e in
      let at : x ≡ y = is ∙ subst (λ n. get_or xs n x ≡ y) (sym same) found in
      subst (λ n. P n y) same (subst (λ z. P i z) at here)
]

pub all_done : {X : Type 0} → (P : ℕ → X → Type 0) (xs : List X) (i : ℕ) → length xs ≤ i → ((k : ℕ) (y : X) → k < i → slice_get xs k ≡ Some y → P k y) → (k : ℕ) (y : X) → slice_get xs k ≡ Some y → P k y
all_done P xs i le before k y e = let lt = slice_get_within xs k y e in before k y (omega (arith, lt)) e
