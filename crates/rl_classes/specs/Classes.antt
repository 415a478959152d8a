-- Key classes.
use Rattle.std.specs.Prelude.{◌≡◌, ℕ, ◌<◌, ◌≤◌, ◌+◌, ◌^◌, ◌↔◌, Bool, IsTrue, IsSome, ℤ, List, [], ◌∷◌, ◌++◌, length, Option, Some, None, nat_lt, position, slice_get, if◌then◌else◌}
use Rattle.std.specs.List.{AllByRecursion}
use Rattle.rl_types.specs.declared.alphabet.Alphabet.{Alphabet}
use Rattle.rl_types.specs.Alphabet.{has_key}
use Rattle.rl_types.specs.KeyRange.{Range}
use Rattle.rl_classes.specs.declared.pieces.Piece.{Piece}
use Rattle.rl_classes.specs.declared.classes.Sorted.{Sorted}
use Rattle.rl_classes.specs.Sets.{holds, SameSets}
use Rattle.rl_classes.specs.Pieces.{Ordered, ranges_in, number_at, ranges_of}

-- the class of a key: the first that holds it
abbrev pub class_of : List (List Range) → ℤ → Option ℕ
class_of classes key = position (holds key) classes

-- what holds of the ranges of each class
abbrev pub EachClass : List (List Range) → (ℕ → List Range → Type 0) → Type 0
EachClass classes Says = (class : ℕ) (ranges : List Range) → slice_get classes class ≡ Some ranges → Says class ranges

-- the key classes of an alphabet: two keys are in one class exactly where the same sets hold them
pub record AreClasses (sets : List (List Range)) (alphabet : Alphabet) (classes : List (List Range)) : Type 0 where
  pub covers : (key : ℤ) → IsSome (class_of classes key) ↔ IsTrue (has_key alphabet key)
  pub alike : (k l : ℤ) → IsTrue (has_key alphabet k) → IsTrue (has_key alphabet l) → (class_of classes k ≡ class_of classes l) ↔ SameSets sets k l
  pub apart : EachClass classes (λ class ranges. (key : ℤ) → IsTrue (holds key ranges) → class_of classes key ≡ Some class)
  pub ordered : EachClass classes (λ class ranges. Ordered ranges)
  pub used : EachClass classes (λ class ranges. 0 < length ranges)

-- one more empty list, where there are fewer than so many
abbrev pub room_for : ℕ → List (List Range) → List (List Range)
room_for count classes = if nat_lt (length classes) count then classes ++ [] ∷ [] else classes

-- the pieces of classes, and the ranges of each
pub record Sorts (pieces : List Piece) (sorted : Sorted) : Type 0 where
  pub same : (k l : ℤ) → (number_at sorted.pieces.items k ≡ number_at sorted.pieces.items l) ↔ (number_at pieces k ≡ number_at pieces l)
  pub held : (key : ℤ) → IsSome (number_at sorted.pieces.items key) ↔ IsSome (number_at pieces key)
  pub ranges_are : ranges_in sorted.pieces.items ≡ ranges_in pieces
  pub lists : EachClass sorted.classes.items (λ class ranges. ranges ≡ ranges_of class sorted.pieces.items)
  pub within : AllByRecursion (λ p. p.number < length sorted.classes.items) sorted.pieces.items
  pub used : EachClass sorted.classes.items (λ class ranges. 0 < length ranges)
  pub few : length sorted.classes.items ≤ length pieces

-- pieces in which the class of each key is found
pub record AreSearchable (pieces : List Piece) (classes : List (List Range)) : Type 0 where
  pub class : (key : ℤ) → class_of classes key ≡ number_at pieces key
  pub ordered : Ordered (ranges_in pieces)
  pub few : length classes < 2 ^ 32
