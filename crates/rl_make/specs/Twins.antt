-- The tables of a Spec make the runs of its expressions.
use Rattle.std.specs.Prelude.{◌≡◌, ℕ, Some}
use Rattle.rl_types.specs.declared.numbers.Key.{Key}
use Rattle.rl_run.specs.Alike.{MakeSameRuns}
use Rattle.rl_run.specs.Machine.{Go, Machine}
use Rattle.rl_arrays.specs.declared.arrays.Arrays.{Arrays}
use Rattle.rl_arrays.specs.TableMachine.{machine}
use Rattle.rl_model.specs.declared.spec.Spec.{Spec}
use Rattle.rl_model.specs.Specification.{specification_of}
use Rattle.rl_model.specs.Trees.{TestsOf, AreTestsHonest, tree_machine}

-- The states stand for each other: both are Error, or the start of the same entry, or one way leads to both, letter by
-- letter and home.
pub data StandFor {S T : Type 0} (m : Machine S) (w : Machine T) : S → T → Type 0 where
  failed : StandFor m w m.failed w.failed
  entered : (e : ℕ) → StandFor m w (m.entry e) (w.entry e)
  went : {q : S} {p : T} → StandFor m w q p → (key : Key) (hold : ℕ) (g : Go S) (h : Go T) → m.find q key hold ≡ Some g → w.find p key hold ≡ Some h
      → StandFor m w g.target h.target
  went_home : {q : S} {p : T} → StandFor m w q p → StandFor m w (m.home q) (w.home p)

-- Whatever honest tests say, from each entry, on each input and with the same answers, the arrays make the calls that the trees
-- make, but that actions have other numbers, with their names and statements; where a run ends, its outcome, positions and verdict
-- are the same, and its state and stack stand for each other.
abbrev pub RunsAs : Spec → Arrays → Type 0
RunsAs spec a = (tests : TestsOf (specification_of spec)) → AreTestsHonest (specification_of spec) tests →
    (number : ℕ → ℕ) × MakeSameRuns (tree_machine (specification_of spec) tests) (machine a) number (StandFor (tree_machine (specification_of spec) tests) (machine a))
