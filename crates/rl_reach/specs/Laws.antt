-- What the numbers of a machine are, by the letters of an alphabet.
use Rattle.std.specs.Prelude.{◌≡◌, ℕ, List, IsTrue, length}
use Rattle.rl_types.specs.declared.alphabet.Alphabet.{Alphabet}
use Rattle.rl_types.specs.Alphabet.{has_key}
use Rattle.rl_sets.specs.Sets.{In}
use Rattle.rl_fsm.specs.declared.root.EntryFsm.{EntryFsm}
use Rattle.rl_run.specs.Numbers.{letters_of, IsBreadthFirst}
use Rattle.rl_run.specs.Numbers as R
use Rattle.rl_model.specs.Parts.{Context}
use Rattle.rl_minimal.specs.declared.state.MinEdge.{MinEdge}
use Rattle.rl_minimal.specs.Minimal.{Minimal}
use Rattle.rl_minimal.specs.Machine.{edges_at}
use Rattle.rl_root.specs.Roots.{RootState, root_machine}
use Rattle.rl_reach.specs.Canonical.{IsMachineOf, IsLeast}

-- the alphabet has the first key of each edge
abbrev pub BeginIn : Alphabet → Minimal → Type 0
BeginIn alphabet m = (i : ℕ) (e : MinEdge) → In e (edges_at m i) → IsTrue (has_key alphabet e.range.lo)

module _ (entries : List EntryFsm) (alphabet : Alphabet) (context : Context) where
  -- The numbers are those of a breadth-first walk by letters; where alike states have one number, they are the canonical ones.
  -- `state` picks a state of each number.
  pub record AreNumbered (m : Minimal) (is : IsMachineOf entries m) : Type 0 where
    pub state : ℕ → RootState
    pub walk : IsBreadthFirst (root_machine entries context) (letters_of alphabet) (length entries) is.class state is.order
    pub canonical : IsLeast entries m is context → R.AreCanonical (root_machine entries context) (letters_of alphabet) (length entries) is.class state is.order
