-- What is added to sets and conditions.
use Rattle.std.specs.Prelude.{◌≡◌, ℕ, ◌+◌, ◌≤◌, Bool, true, false, List, [], ◌∷◌, ◌++◌}
use Rattle.std.specs.Ordering.{nat_cmp}
use Rattle.rl_types.specs.declared.alphabet.Alphabet.{Alphabet}
use Rattle.rl_types.specs.KeyRange.{Range}
use Rattle.rl_sets.specs.Sets.{insert}
use Rattle.rl_classes.specs.Sets.{range_count}
use Rattle.rl_build.specs.declared.cells.Cells.{Cells}
use Rattle.rl_build.specs.Cells.{HaveSame, AreCounted}

-- more sets were added to the old ones, but for those that were there; `added` tells whether some were not
pub record AddsAll (old more new : List (List Range)) (added : Bool) : Type 0 where
  pub same : HaveSame new (old ++ more)
  pub few : range_count new ≤ range_count old + range_count more
  pub kept : added ≡ false → new ≡ old

-- each of the numbers put in its place, the last one first
abbrev pub insert_all : List ℕ → List ℕ → List ℕ
insert_all [] ys = ys
insert_all (x ∷ xs) ys = insert nat_cmp x (insert_all xs ys)

-- so many key classes: they are counted where sets were added, and as many as before where not
abbrev pub AreCountedAgain : Alphabet → List (List Range) → Bool → ℕ → ℕ → Type 0
AreCountedAgain alphabet sets added before n = (added ≡ true → AreCounted alphabet sets n) × (added ≡ false → n ≡ before)

-- the same sets, the same number of classes and the same conditions
pub record IsCopy (a c : Cells) : Type 0 where
  pub sets : c.sets.items ≡ a.sets.items
  pub classes : c.classes ≡ a.classes
  pub conditions : c.conditions.items ≡ a.conditions.items
