-- Which actions tables name.
use Rattle.std.specs.Prelude.{◌≡◌, ℕ, ◌⊎◌, ◌↔◌, List, Some, length}
use Rattle.rl_types.specs.declared.numbers.Key.{Key}
use Rattle.rl_sets.specs.Sets.{In}
use Rattle.rl_run.specs.Machine.{Go, Machine}
use Rattle.rl_run.specs.Numbers.{letters_of, IsKnown}
use Rattle.rl_arrays.specs.declared.arrays.Arrays.{Arrays}
use Rattle.rl_model.specs.declared.spec.Spec.{Spec}
use Rattle.rl_model.specs.Specification.{specification_of}
use Rattle.rl_model.specs.Trees.{TestsOf, AreTestsHonest, tree_machine}
use Rattle.rl_layout.specs.SpecArrays.{name_of}
use Rattle.rl_script.specs.TableNames.{names_in}

module _ {S : Type 0} (m : Machine S) where
  -- the list of a step from the state has the action
  abbrev pub StepHas : S → ℕ → Type 0
  StepHas q x = (key : Key) × (hold : ℕ) × (g : Go S) × (m.find q key hold ≡ Some g) × In x g.list

  -- a list of the state, or of a step from it, has the action
  abbrev pub Has : S → ℕ → Type 0
  Has q x = In x (m.from q) ⊎ (In x (m.to q) ⊎ (In x (m.error q) ⊎ (In x (m.eof q) ⊎ (In x (m.token q) ⊎ StepHas q x))))

-- Error, or a state that the entries reach, has the action
abbrev pub IsUsed : {S : Type 0} → Spec → Machine S → ℕ → Type 0
IsUsed {S} spec m x = (q : S) × IsKnown m (letters_of spec.alphabet) (length spec.entries) q × Has m q x

-- whatever honest tests say, the names of actions in arrays are exactly those of the actions that are used
abbrev pub NamesUsed : Spec → Arrays → Type 0
NamesUsed spec a = (tests : TestsOf (specification_of spec)) → AreTestsHonest (specification_of spec) tests → (name : List ℕ) →
    In name (names_in a).actions ↔ ((x : ℕ) × IsUsed spec (tree_machine (specification_of spec) tests) x × (name ≡ name_of spec.actions x))
