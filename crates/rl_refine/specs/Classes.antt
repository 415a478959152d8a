-- The classes of alike states, each told by its first state.
use Rattle.std.specs.Prelude.{◌≡◌, ◌↔◌, ℕ, ◌<◌, ◌≤◌, List, length, slice_get, unwrap_or}
use Rattle.rl_run.specs.Classes.{AreAlike}
use Rattle.rl_model.specs.Parts.{Context}
use Rattle.rl_minimal.specs.Minimal.{Minimal}
use Rattle.rl_minimal.specs.Machine.{min_machine}

-- the class of the i-th state
abbrev pub class_in : List ℕ → ℕ → ℕ
class_in classes i = unwrap_or (slice_get classes i) 0

-- Each state has a class, and two have the same exactly where they are alike. A class is told by the first of its
-- states.
pub record AreClasses (m : Minimal) (classes : List ℕ) : Type 0 where
  pub whole : length classes ≡ length m.states
  pub alike : (context : Context) (i j : ℕ) → i < length m.states → j < length m.states
      → (class_in classes i ≡ class_in classes j) ↔ AreAlike (min_machine m context) i j
  pub first : (i : ℕ) → i < length m.states → class_in classes i ≤ i
  pub own : (i : ℕ) → i < length m.states → class_in classes (class_in classes i) ≡ class_in classes i
