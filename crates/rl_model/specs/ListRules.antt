-- What holds of a machine whose Spec is well-formed.
use Rattle.std.specs.Prelude.{◌≡◌, ℕ, ◌^◌, ◌<◌, List, ◌++◌, length, Some, IsTrue}
use Rattle.std.specs.List.{AllByRecursion}
use Rattle.rl_types.specs.declared.numbers.Key.{Key}
use Rattle.rl_types.specs.Alphabet.{has_key}
use Rattle.rl_run.specs.Machine.{Go, Machine}
use Rattle.rl_run.specs.Fine.{IsQuiet, IsKinded}
use Rattle.rl_model.specs.Specification.{Specification}
use Rattle.rl_model.specs.WellFormed.{IsNumber}

-- the lists of a state, but those of its steps
abbrev pub lists_at : {S : Type 0} → Machine S → S → List ℕ
lists_at m q = m.from q ++ m.to q ++ m.error q ++ m.eof q ++ m.token q

-- Kinds go along with steps and homes; from-state and to-state actions, and the actions of steps in a scanner, have no control
-- statements; all lists have only numbers of the specification's actions; only its conditions are asked, and only keys of its
-- alphabet have steps.
pub record KeepsRules {S : Type 0} (spec : Specification) (m : Machine S) : Type 0 where
  pub kinded : IsKinded m
  pub from : (q : S) → AllByRecursion (IsQuiet m) (m.from q)
  pub to : (q : S) → AllByRecursion (IsQuiet m) (m.to q)
  pub lists : (q : S) → AllByRecursion (IsNumber (length spec.actions)) (lists_at m q)
  pub steps : (q : S) (key : Key) (hold : ℕ) (go : Go S) → m.find q key hold ≡ Some go → AllByRecursion (IsNumber (length spec.actions)) go.list
  pub asked : (q : S) (key : Key) → m.asked q key < 2 ^ length spec.conditions
  pub keys : (q : S) (key : Key) (hold : ℕ) (go : Go S) → m.find q key hold ≡ Some go → IsTrue (has_key spec.alphabet key.0)
