-- How classes are split until the states of each look the same.
use Rattle.std.specs.Prelude.{◌≡◌, ◌==◌, ℕ, ◌<◌, ◌≤◌, List, [], length, nat_le}
use Rattle.rl_types.specs.declared.numbers.ActionId.{ActionId}
use Rattle.rl_run.specs.Classes.{AreAlike}
use Rattle.rl_model.specs.Parts.{Context}
use Rattle.rl_minimal.specs.declared.state.MinState.{MinState}
use Rattle.rl_minimal.specs.Minimal.{Minimal, at_state, kind_at, home_at}
use Rattle.rl_minimal.specs.Machine.{edges_at, min_machine}
use Rattle.rl_refine.specs.Classes.{class_in}
use Rattle.rl_refine.specs.Covers.{StepAlike}

-- the states have the same lists
pub record SameLists (s t : MinState) : Type 0 where
  pub from : s.from ≡ t.from
  pub to : s.to ≡ t.to
  pub eof : s.eof ≡ t.eof
  pub error : s.error ≡ t.error
  pub token : s.token ≡ t.token

-- a list of a state
abbrev pub list_at : (MinState → List ActionId) → Minimal → ℕ → List ActionId
list_at f m i = at_state [] f m.states i

-- Two states of a class that show the same, and whose steps and homes lead to the same classes; Error is like no other.
pub record StayTogether (m : Minimal) (classes : List ℕ) (i j : ℕ) : Type 0 where
  pub class : class_in classes i ≡ class_in classes j
  pub from : list_at (λ s. s.from) m i ≡ list_at (λ s. s.from) m j
  pub to : list_at (λ s. s.to) m i ≡ list_at (λ s. s.to) m j
  pub eof : list_at (λ s. s.eof) m i ≡ list_at (λ s. s.eof) m j
  pub error : list_at (λ s. s.error) m i ≡ list_at (λ s. s.error) m j
  pub token : list_at (λ s. s.token) m i ≡ list_at (λ s. s.token) m j
  pub is_error : (i == 0) ≡ (j == 0)
  pub verdict : nat_le m.first_final i ≡ nat_le m.first_final j
  pub kind : kind_at m.states i ≡ kind_at m.states j
  pub home : class_in classes (home_at m.states i) ≡ class_in classes (home_at m.states j)
  pub steps : StepAlike classes (edges_at m i) (edges_at m j)

-- j is the first state that stays together with the i-th one
pub record IsFirst (m : Minimal) (classes : List ℕ) (i j : ℕ) : Type 0 where
  pub within : j ≤ i
  pub together : StayTogether m classes j i
  pub least : (k : ℕ) → k < j → StayTogether m classes k i → ⊥

-- the new classes have the states together that stay so
pub record AreSplit (m : Minimal) (old new : List ℕ) : Type 0 where
  pub whole : length new ≡ length m.states
  pub first : (i : ℕ) → i < length m.states → IsFirst m old i (class_in new i)

-- states that are alike are still together
pub record AreCoarse (m : Minimal) (classes : List ℕ) : Type 0 where
  pub whole : length classes ≡ length m.states
  pub first : (i : ℕ) → i < length m.states → class_in classes i ≤ i
  pub own : (i : ℕ) → i < length m.states → class_in classes (class_in classes i) ≡ class_in classes i
  pub alike : (context : Context) (i j : ℕ) → i < length m.states → j < length m.states
      → AreAlike (min_machine m context) i j → class_in classes i ≡ class_in classes j

-- so many zeros
pub record AreZeros (numbers : List ℕ) (n : ℕ) : Type 0 where
  pub whole : length numbers ≡ n
  pub each : (i : ℕ) → class_in numbers i ≡ 0
