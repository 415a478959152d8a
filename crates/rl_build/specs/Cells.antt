-- How the cells of an expression's configurations are counted.
use Rattle.std.specs.Prelude.{◌≡◌, ℕ, ◌*◌, ◌/◌, ◌^◌, ◌≤◌, ℤ, List, length, ◌↔◌}
use Rattle.std.specs.Ordering.{nat_cmp}
use Rattle.rl_types.specs.Limits.{most_cells}
use Rattle.rl_types.specs.declared.alphabet.Alphabet.{Alphabet}
use Rattle.rl_types.specs.KeyRange.{Range}
use Rattle.rl_sets.specs.Sets.{In, set_of}
use Rattle.rl_automata.specs.Laws.{AreOneOfEach}
use Rattle.rl_classes.specs.Sets.{range_count}
use Rattle.rl_build.specs.declared.cells.Cells.{Cells}

-- the two lists have the same elements
abbrev pub HaveSame : {X : Type 0} → List X → List X → Type 0
HaveSame {X} xs ys = (x : X) → In x xs ↔ In x ys

-- so many key classes: so many keys are one of each
abbrev pub AreCounted : Alphabet → List (List Range) → ℕ → Type 0
AreCounted alphabet sets n = (keys : List ℤ) × AreOneOfEach alphabet sets keys × (length keys ≡ n)

-- these are the cells of an expression with these sets and conditions
pub record AreCells (alphabet : Alphabet) (all : List (List Range)) (asked : List ℕ) (c : Cells) : Type 0 where
  pub same : HaveSame c.sets.items all
  pub few : range_count c.sets.items ≤ range_count all
  pub classes : AreCounted alphabet all c.classes
  pub conditions : c.conditions.items ≡ set_of nat_cmp asked

-- how many configurations have no more than 4,194,304 cells together
abbrev pub most_of : Cells → ℕ
most_of c = most_cells / (c.classes * 2 ^ length c.conditions.items)
