-- The piece of an input between two places.
use Rattle.std.proofs.Common.{◌≡◌, ℕ, zero, suc, ◌+◌, ◌-◌, ◌^◌, ◌<◌, ◌≤◌, List, [], ◌∷◌, ◌++◌, length, take, drop, refl, sym, ◌∙◌, ap, subst, arith}
use Rattle.std.proofs.lemmas.List.{length-take-le}

-- the first bytes, and those between, are the first bytes up to the second place
pub between_behind : (input : List ℕ) (from n to : ℕ) → to ≡ from + n → take from input ++ take n (drop from input) ≡ take to input
between_behind input from n to e = go input from ∙ ap (λ k. take k input) (sym e)
  where
    go : (xs : List ℕ) (i : ℕ) → take i xs ++ take n (drop i xs) ≡ take (i + n) xs
    go xs zero = ap (λ k. take k xs) (front n)
      where
        front : (n : ℕ) → n ≡ 0 + n
        front n = omega arith
    go [] (suc i) = none n ∙ ap (λ k. take k []) (more i n)
      where
        none : (n : ℕ) → take {A = ℕ} n [] ≡ take {A = ℕ} (suc (i + n)) []
        none zero = refl
        none (suc n) = refl

        more : (i n : ℕ) → suc (i + n) ≡ suc i + n
        more i n = omega arith
    go (x ∷ xs) (suc i) = ap (λ rest. x ∷ rest) (go xs i) ∙ ap (λ k. take k (x ∷ xs)) (more i n)
      where
        more : (i n : ℕ) → suc (i + n) ≡ suc i + n
        more i n = omega arith

pub piece_behind : (input : List ℕ) (from to : ℕ) → from ≤ to → to ≤ length input → take from input ++ take (to - from) (drop from input) ≡ take to input
piece_behind input from to order within = between_behind input from (to - from) to (omega arith)

pub front_small : (input : List ℕ) (to : ℕ) → to ≤ length input → length input < 2 ^ 63 → length (take to input) < 2 ^ 63
front_small input to within small = omega (arith, small, within, length-take-le to input within)

pub piece_small : (input : List ℕ) (from to : ℕ) → from ≤ to → to ≤ length input → length input < 2 ^ 63 →
    length (take from input ++ take (to - from) (drop from input)) < 2 ^ 63
piece_small input from to order within small =
    subst (λ xs. length xs < 2 ^ 63) (sym (piece_behind input from to order within)) (front_small input to within small)
