-- Which sets hold a key.
use Rattle.std.specs.Prelude.{◌≡◌, ℕ, ◌*◌, ◌^◌, ◌≤◌, Bool, false, ◌||◌, ℤ, pos, ◌<ℤ◌, List, ◌++◌, length, ◌↔◌, sum_by, if◌then◌else◌}
use Rattle.std.specs.List.{list_any, AllByRecursion}
use Rattle.rl_types.specs.KeyRange.{Range, in_range}
use Rattle.rl_classes.specs.declared.steps.Step.{Step}
use Rattle.rl_classes.specs.declared.steps.Steps.{Steps}
use Rattle.rl_classes.specs.Steps.{Ascend, froms, value_at}

-- one of the ranges holds the key
abbrev pub holds : ℤ → List Range → Bool
holds key set = list_any (in_range key) set

-- the same sets hold the two keys
abbrev pub SameSets : List (List Range) → ℤ → ℤ → Type 0
SameSets sets k l = AllByRecursion (λ set. holds k set ≡ holds l set) sets

-- how many ranges the sets have together
abbrev pub range_count : List (List Range) → ℕ
range_count sets = sum_by (λ set. length set) sets

-- the function tells of each key of 64 bits whether the set holds it
pub record TellsSet (set : List Range) (f : Steps Bool) : Type 0 where
  pub told : (key : ℤ) → key <ℤ pos (2 ^ 63) → value_at f key ≡ holds key set
  pub ascends : Ascend (froms f.later.items)
  pub short : length f.later.items ≤ 2 * length set

-- the function tells apart exactly the keys of 64 bits that not the same sets hold
pub record TellsSets (sets : List (List Range)) (f : Steps ℕ) : Type 0 where
  pub told : (k l : ℤ) → k <ℤ pos (2 ^ 63) → l <ℤ pos (2 ^ 63) → (value_at f k ≡ value_at f l) ↔ SameSets sets k l
  pub ascends : Ascend (froms f.later.items)
  pub short : length f.later.items ≤ 2 * range_count sets

-- a step with another value in the place of its own
abbrev pub with_value : {T U : Type 0} → (T → U) → Step T → Step U
with_value f s = record { from = s.from; value = f s.value }

abbrev pub either_of : Bool × Bool → Bool
either_of p = p.0 || p.1

abbrev pub bit_of : Bool → ℕ
bit_of b = if b then 1 else 0

-- other values, which tell the same keys apart
pub record Renumbers {T U : Type 0} (f : Steps T) (g : Steps U) : Type 0 where
  pub told : (k l : ℤ) → (value_at g k ≡ value_at g l) ↔ (value_at f k ≡ value_at f l)
  pub froms_are : froms g.later.items ≡ froms f.later.items

-- the list goes on
abbrev pub GoesOn : {X : Type 0} → List X → List X → Type 0
GoesOn {X} front whole = (rest : List X) × (whole ≡ front ++ rest)
