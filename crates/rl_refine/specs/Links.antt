-- The first states of each class, each with the next one.
use Rattle.std.specs.Prelude.{◌≡◌, ℕ, ◌<◌, ◌≤◌, List, length}
use Rattle.rl_minimal.specs.Minimal.{Minimal}
use Rattle.rl_refine.specs.declared.splits.Place.{Place}
use Rattle.rl_refine.specs.declared.splits.Place.TheVariants.{With, Behind}
use Rattle.rl_refine.specs.Classes.{class_in}
use Rattle.rl_refine.specs.Splits.{IsFirst}

-- both are first states, n the next of its class behind p, and below i
pub record IsNext (m : Minimal) (old : List ℕ) (i p n : ℕ) : Type 0 where
  pub above : p < n
  pub below : n < i
  pub first : IsFirst m old n n
  pub class : class_in old p ≡ class_in old n
  pub between : (f : ℕ) → p < f → f < n → IsFirst m old f f → class_in old p ≡ class_in old f → ⊥

-- each first state below i has the next one of its class, or 0 where there is none
pub record AreLinked (m : Minimal) (old later : List ℕ) (i : ℕ) : Type 0 where
  pub whole : length later ≡ length m.states
  pub unused : (k : ℕ) → i ≤ k → class_in later k ≡ 0
  pub each : (k : ℕ) → k < i → (f : ℕ) × IsFirst m old k f
  pub last : (p f : ℕ) → p < f → f < i → IsFirst m old p p → IsFirst m old f f
      → class_in old p ≡ class_in old f → class_in later p ≡ 0 → ⊥
  pub next : (p : ℕ) → p < i → IsFirst m old p p → 0 < class_in later p → IsNext m old i p (class_in later p)

-- the i-th state stays together with f, which is an earlier state or the first of the class
pub record IsWith (m : Minimal) (old : List ℕ) (i f : ℕ) : Type 0 where
  pub first : IsFirst m old i f
  pub known : f ≡ i → class_in old i ≡ i

-- the i-th state is a first one, and p the last first one of its class before
pub record IsBehind (m : Minimal) (old later : List ℕ) (i p : ℕ) : Type 0 where
  pub new : IsFirst m old i i
  pub first : IsFirst m old p p
  pub before : p < i
  pub class : class_in old p ≡ class_in old i
  pub last : class_in later p ≡ 0

abbrev pub IsPlace : Minimal → List ℕ → List ℕ → ℕ → Place → Type 0
IsPlace m old later i (With f) = IsWith m old i f
IsPlace m old later i (Behind p) = IsBehind m old later i p
