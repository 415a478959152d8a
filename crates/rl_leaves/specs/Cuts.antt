-- Values that are cut off the front of a list one behind another: each begins with one element, and may take more of them.
use Rattle.std.specs.Prelude.{◌≤◌, ℕ, zero, suc, List, [], ◌∷◌, length}

-- at most so many values, each with what is left behind it
unfoldable pub cut_within : {X Y : Type 0} → (X → List X → Y) → (X → List X → List X) → ℕ → List X → List Y
cut_within value behind zero xs = []
cut_within value behind (suc n) [] = []
cut_within value behind (suc n) (x ∷ xs) = value x xs ∷ cut_within value behind n (behind x xs)

-- all values: a list has no more of them than elements
unfoldable pub cut : {X Y : Type 0} → (X → List X → Y) → (X → List X → List X) → List X → List Y
cut value behind xs = cut_within value behind (length xs) xs

-- what is left is no longer than what stood behind the first element
abbrev pub Shrinks : {X : Type 0} → (X → List X → List X) → Type 0
Shrinks {X = X} behind = (x : X) (xs : List X) → length (behind x xs) ≤ length xs
