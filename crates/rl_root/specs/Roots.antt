-- The machine that the machines of all entries make together.
use Rattle.std.specs.Prelude.{ℕ, List, Some, None, IsTrue, length}
use Rattle.rl_automata.specs.Follows.{Reach}
use Rattle.rl_fsm.specs.declared.root.EntryFsm.{EntryFsm}
use Rattle.rl_fsm.specs.Graphs.{has_no_edge}
pub use Rattle.rl_fsm.specs.Roots.{graph_of, graph_at, scans_at, ends_at, token_list_at, auto_at}
use Rattle.rl_run.specs.Machine.{Machine}
use Rattle.rl_model.specs.Parts.{Part, Context, EntryState, is_entry, machine}

abbrev pub part_at : List EntryFsm → ℕ → Part ℕ
part_at entries e = record {
  auto = auto_at entries e;
  is_scanner = scans_at entries e;
  token = token_list_at entries e;
  closed = has_no_edge (graph_at entries e);
}

-- Error, or an entry's number and the number of a state of its machine
abbrev pub RootState : Type 0
RootState = EntryState (λ e. ℕ)

abbrev pub root_machine : List EntryFsm → Context → Machine RootState
root_machine entries context = machine (λ e. ℕ) (part_at entries) (length entries) context

-- Error, or a state that some word leads to from the start of its entry
abbrev pub IsBuilt : List EntryFsm → RootState → Type 0
IsBuilt entries None = Unit {0}
IsBuilt entries (Some (e, i)) = IsTrue (is_entry (length entries) e) × Reach (auto_at entries e) i
