-- The machine with the fewest states.
use Rattle.std.specs.Prelude.{◌≡◌, ℕ, ◌<◌, List, length}
use Rattle.rl_fsm.specs.declared.root.EntryFsm.{EntryFsm}
use Rattle.rl_run.specs.Classes.{AreAlike}
use Rattle.rl_model.specs.Parts.{Context}
use Rattle.rl_minimal.specs.Minimal.{Minimal}
use Rattle.rl_minimal.specs.Machine.{min_machine}
use Rattle.rl_reach.specs.Canonical.{IsMachineOf, IsLeast}

-- The states that the entries reach have a number each, and two have the same exactly where they are alike. No two
-- states of the machine are alike. The numbers go by a breadth-first walk, those that are not final first.
pub record IsLeastOf (entries : List EntryFsm) (m : Minimal) : Type 0 where
  pub machine : IsMachineOf entries m
  pub least : (context : Context) → IsLeast entries m machine context
  pub unlike : (context : Context) (i j : ℕ) → i < length m.states → j < length m.states → AreAlike (min_machine m context) i j → i ≡ j
