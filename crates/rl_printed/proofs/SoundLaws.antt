-- All machines up to a number, and all.
use Rattle.std.proofs.Common.{◌≡◌, ℕ, zero, suc, ◌+◌, ◌<◌, Bool, true, false, List, [], ◌∷◌, length, get_or, Some, sym, ap, ◌∙◌, refl, subst, arith}
use Rattle.std.specs.Prelude.{slice_get, ◌==◌}
use Rattle.std.proofs.lemmas.Bool.Decides.{nat_tests}

module _ {A : Type 0} (P : ℕ → A → Type 0) where
  -- one more
  pub all_more : (xs : List A) (i : ℕ) (x : A) → slice_get xs i ≡ Some x → ((k : ℕ) (y : A) → k < i → slice_get xs k ≡ Some y → P k y) → P i x
      → (k : ℕ) (y : A) → k < i + 1 → slice_get xs k ≡ Some y → P k y
  all_more xs i x at before here k y lt e = by (k == i) refl
    where
      by : (t : Bool) → (k == i) ≡ t → P k y
      by true f =
          let same : k ≡ i = grind (arith, nat_tests, f) in
          let is : Some x ≡ Some y = sym at ∙ sym (ap (slice_get xs) same) ∙ e in
          let it : x ≡ y = cc in
          subst (λ n. P n y) (sym same) (subst (P i) it here)
      by false f = before k y (grind (arith, nat_tests, f, lt)) e

-- what an index reads
pub read_at : {A : Type 0} (xs : List A) (i : ℕ) (x : A) → i < length xs → x ≡ get_or xs i x → slice_get xs i ≡ Some x
read_at [] i x l e = absurd (omega arith)
read_at (y ∷ ys) zero x l e = ap Some (sym e)
read_at (y ∷ ys) (suc i) x l e = read_at ys i x (omega (arith, l)) e
