-- The machines of all entries.
use Rattle.std.specs.Prelude.{ℕ, ◌-◌, Bool, false, true, List, [], length, sum_by, nat_eq, Option, None, is_some, slice_get, if◌then◌else◌}
use Rattle.std.specs.Option.{option_map}
use Rattle.rl_labels.specs.Labels.{numbers}
use Rattle.rl_automata.specs.Auto.{Auto, on_part}
use Rattle.rl_fsm.specs.declared.root.EntryFsm.{EntryFsm}
use Rattle.rl_fsm.specs.declared.root.EntryFsm.TheVariants.{Plain, Scanner}
use Rattle.rl_fsm.specs.Graphs.{Graph, fsm_auto}
use Rattle.rl_fsm.specs.Scanned.{Scanned, token_at}

-- the machine of an entry
abbrev pub graph_of : EntryFsm → Graph
graph_of (Plain m) = m
graph_of (Scanner s) = s.machine

-- whether the entry is a scanner
abbrev pub scans : EntryFsm → Bool
scans (Plain m) = false
scans (Scanner s) = true

-- whether a word ends in the state; in a scanner, whether a token does
abbrev pub ends_in : EntryFsm → ℕ → Bool
ends_in (Plain m) i = (fsm_auto m).final i
ends_in (Scanner s) i = is_some (token_at s.tokens i)

-- the actions of the token that ends in the state; empty where none does
abbrev pub token_list_in : EntryFsm → ℕ → List ℕ
token_list_in (Plain m) i = []
token_list_in (Scanner s) i = on_part [] numbers (token_at s.tokens i)

-- how many states the entry has
abbrev pub states_of : EntryFsm → ℕ
states_of x = length (graph_of x).states

abbrev pub states_in : List EntryFsm → ℕ
states_in entries = sum_by states_of entries

-- the entry of this number, from 1
abbrev pub entry_at : List EntryFsm → ℕ → Option EntryFsm
entry_at entries e = if nat_eq e 0 then None else slice_get entries (e - 1)

-- ---- what stands at the entry of a number, from 1; where there is none, a plain machine without states

abbrev pub graph_at : List EntryFsm → ℕ → Graph
graph_at entries e = on_part (record { start = 0; states = [] }) graph_of (entry_at entries e)

abbrev pub scans_at : List EntryFsm → ℕ → Bool
scans_at entries e = on_part false scans (entry_at entries e)

abbrev pub ends_at : List EntryFsm → ℕ → ℕ → Bool
ends_at entries e i = on_part false (λ x. ends_in x i) (entry_at entries e)

abbrev pub token_list_at : List EntryFsm → ℕ → ℕ → List ℕ
token_list_at entries e i = on_part [] (λ x. token_list_in x i) (entry_at entries e)

-- the automaton of its machine, which is final where a word or, in a scanner, a token ends
abbrev pub auto_at : List EntryFsm → ℕ → Auto ℕ
auto_at entries e = record {
  order = (fsm_auto (graph_at entries e)).order;
  start = (fsm_auto (graph_at entries e)).start;
  step = (fsm_auto (graph_at entries e)).step;
  final = ends_at entries e;
  out = (fsm_auto (graph_at entries e)).out;
  marks = (fsm_auto (graph_at entries e)).marks;
  asked = (fsm_auto (graph_at entries e)).asked;
}
