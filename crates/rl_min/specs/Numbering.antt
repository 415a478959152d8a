-- The numbers of classes, in the order of their first states.
use Rattle.std.specs.Prelude.{◌≡◌, ℕ, ◌<◌, Bool, List, [], ◌∷◌, map, length, position, nat_eq, slice_get, unwrap_or}
use Rattle.std.specs.List.{list_any}
use Rattle.rl_sets.specs.Sets.{In}
use Rattle.indexmap.specs.IndexSet.{insert_key}

abbrev pub has_class : List ℕ → ℕ → Bool
has_class classes class = list_any (nat_eq class) classes

-- the class behind the others, unless it is there
abbrev pub with_class : List ℕ → ℕ → List ℕ
with_class classes class = insert_key nat_eq classes class

-- one after another
abbrev pub with_classes : List ℕ → List ℕ → List ℕ
with_classes classes [] = classes
with_classes classes (class ∷ more) = with_classes (with_class classes class) more

-- each class once, in the order of first states
abbrev pub listed : List ℕ → List ℕ
listed classes = with_classes [] classes

-- the number of a class, from 0; 0 where it is not there
abbrev pub number_in : List ℕ → ℕ → ℕ
number_in classes class = unwrap_or (position (nat_eq class) classes) 0

-- the class of a state; 0 where there is no such state
abbrev pub class_at : List ℕ → ℕ → ℕ
class_at classes state = unwrap_or (slice_get classes state) 0

-- a state of each of the classes that were found
pub record ArePicked (classes found states : List ℕ) : Type 0 where
  pub each : map (class_at classes) states ≡ found
  pub there : (state : ℕ) → In state states → state < length classes

-- the number of each state's class, and a state of each number
pub record IsNumbering (classes numbers states : List ℕ) : Type 0 where
  pub counted : numbers ≡ map (number_in (listed classes)) classes
  pub picked : ArePicked classes (listed classes) states
