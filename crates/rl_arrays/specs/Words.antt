-- Words for what is said of the elements of arrays.
use Rattle.std.specs.Prelude.{ℕ, zero, suc, ◌<◌, ℤ, pos, negsuc, ◌+ℤ◌, ◌≤ℤ◌, List, Option, Some, None, IfSome, IsSomeAnd, slice_get}
use Rattle.std.specs.Option.{option_map_or}

-- a number as a count; a negative one counts as 0
abbrev pub natural : ℤ → ℕ
natural (pos n) = n
natural (negsuc n) = 0

-- the count at an index, 0 where the element is missing or negative
abbrev pub number_at : List ℤ → ℕ → ℕ
number_at xs i = option_map_or natural (slice_get xs i) 0

-- what is said of an element, if it is there
abbrev pub IfAt : {X : Type 0} → List X → ℕ → (X → Type 0) → Type 0
IfAt xs i Says = IfSome (slice_get xs i) Says

-- the element is there, and this holds of it
abbrev pub IsAt : {X : Type 0} → List X → ℕ → (X → Type 0) → Type 0
IsAt xs i Says = IsSomeAnd (slice_get xs i) Says

-- from the one number to the other, both included
abbrev pub IsBetween : ℕ → ℕ → ℤ → Type 0
IsBetween low high n = (pos low ≤ℤ n) × (n ≤ℤ pos high)

-- a sum of two numbers, none where one of them is none
abbrev pub plus : Option ℤ → Option ℤ → Option ℤ
plus None n = None
plus (Some m) None = None
plus (Some m) (Some n) = Some (m +ℤ n)

-- the sum of the first so many widths, none where one of them is none
unfoldable pub sum_before : (ℕ → Option ℤ) → ℕ → Option ℤ
sum_before width zero = Some (pos 0)
sum_before width (suc i) = plus (sum_before width i) (width i)

-- the first index below n that is not right, or none
abbrev pub IsFirstWrong : ℕ → (ℕ → Type 0) → Option ℕ → Type 0
IsFirstWrong n Right None = (k : ℕ) → k < n → Right k
IsFirstWrong n Right (Some i) = (i < n) × (Right i → ⊥) × ((k : ℕ) → k < i → Right k)
