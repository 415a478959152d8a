-- Values that are cut off the front of a list: how many are asked for does not matter.
use Rattle.std.proofs.Common.{◌≡◌, ℕ, zero, suc, ◌≤◌, List, [], ◌∷◌, length, refl, ap, arith}
use Rattle.rl_leaves.specs.Cuts.{cut_within, cut}

module _ {X Y : Type 0} (value : X → List X → Y) (behind : X → List X → List X) (shrinks : (x : X) (xs : List X) → length (behind x xs) ≤ length xs) where
  enough : (n m : ℕ) (xs : List X) → length xs ≤ n → length xs ≤ m → cut_within value behind n xs ≡ cut_within value behind m xs
  unfolding cut_within
  enough zero zero xs a b = refl
  enough zero (suc m) [] a b = refl
  enough zero (suc m) (x ∷ xs) a b = absurd (omega arith)
  enough (suc n) zero [] a b = refl
  enough (suc n) zero (x ∷ xs) a b = absurd (omega arith)
  enough (suc n) (suc m) [] a b = refl
  enough (suc n) (suc m) (x ∷ xs) a b =
      let less : length (behind x xs) ≤ length xs = shrinks x xs in
      ap (λ z. value x xs ∷ z) (enough n m (behind x xs) (omega arith) (omega arith))

  -- the first value, and those behind it
  pub cut_more : (x : X) (xs : List X) → cut value behind (x ∷ xs) ≡ value x xs ∷ cut value behind (behind x xs)
  unfolding cut cut_within
  cut_more x xs =
      ap (λ z. value x xs ∷ z) (enough (length xs) (length (behind x xs)) (behind x xs) (shrinks x xs) (omega arith))

  pub cut_none : cut value behind [] ≡ []
  unfolding cut cut_within
  cut_none = refl
