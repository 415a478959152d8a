-- The states of the machine, made from places.
use Rattle.std.specs.Prelude.{ℕ, Bool, cond, List, [], ◌∷◌, ◌++◌, map}
use Rattle.rl_types.specs.declared.numbers.ActionId.{ActionId}
use Rattle.rl_labels.specs.declared.stamped.Stamp.{Stamp}
use Rattle.rl_labels.specs.Labels.{stamps_of, once}
use Rattle.rl_automata.specs.Auto.{on_part}
use Rattle.rl_fsm.specs.declared.root.EntryFsm.{EntryFsm}
use Rattle.rl_fsm.specs.declared.edge.Edge.{Edge}
use Rattle.rl_fsm.specs.declared.state.State.{State}
use Rattle.rl_fsm.specs.Graphs.{state_at}
use Rattle.rl_fsm.specs.Roots.{graph_at, scans_at, ends_at, token_list_at}
use Rattle.rl_model.specs.Parts.{kind_in}
use Rattle.rl_root.specs.Roots.{part_at}
use Rattle.rl_minimal.specs.declared.state.MinState.{MinState}
use Rattle.rl_minimal.specs.declared.state.MinEdge.{MinEdge}
use Rattle.rl_reach.specs.declared.place.Place.{Place}
use Rattle.rl_reach.specs.Places.{number_in}
use Rattle.rl_reach.specs.Walks.{start_of}

-- the actions of these numbers
abbrev pub listed : List ℕ → List ActionId
listed numbers = map (λ (n : ℕ). record { 0 = n }) numbers

-- the actions in the order of their stamps, each once
abbrev pub actions_of : List Stamp → List ActionId
actions_of stamps = listed (once stamps)

-- what is called where the input ends: the end-of-file marks, with the leaving actions where the state is final and else
-- with the error marks
abbrev pub eof_stamps : Bool → State → List Stamp
eof_stamps fin s = stamps_of (s.marks.eof ++ cond fin s.out.actions s.marks.error)

-- the actions, in a plain entry; a scanner's states have none of the kind
abbrev pub plain_actions : List EntryFsm → ℕ → List Stamp → List ActionId
plain_actions entries entry stamps = cond (scans_at entries entry) [] (actions_of stamps)

-- the number of the scanner's start; 0 in a plain entry
abbrev pub home_of : List EntryFsm → List Place → ℕ → ℕ
home_of entries places entry = cond (scans_at entries entry) (number_in places (start_of entries entry)) 0

abbrev pub min_edge : List Place → ℕ → Edge → MinEdge
min_edge places entry e = record {
  range = e.range;
  asks = e.asks;
  truths = e.truths;
  target = number_in places (record { entry = entry; state = e.target });
  list = actions_of e.actions;
}

abbrev pub min_state : List EntryFsm → List Place → Place → State → MinState
min_state entries places p s = record {
  kind = kind_in (part_at entries p.entry) p.state;
  home = home_of entries places p.entry;
  from = actions_of s.marks.from;
  to = actions_of s.marks.to;
  eof = plain_actions entries p.entry (eof_stamps (ends_at entries p.entry p.state) s);
  error = plain_actions entries p.entry s.marks.error;
  token = listed (token_list_at entries p.entry p.state);
  edges = map (min_edge places p.entry) s.edges;
}

abbrev pub error_state : MinState
error_state = record { kind = 0; home = 0; from = []; to = []; eof = []; error = []; token = []; edges = [] }

-- the state of a place
abbrev pub state_for : List EntryFsm → List Place → Place → MinState
state_for entries places p = on_part error_state (min_state entries places p) (state_at (graph_at entries p.entry) p.state)

-- Error, and the states of all places in order
abbrev pub states_for : List EntryFsm → List Place → List MinState
states_for entries places = error_state ∷ map (state_for entries places) places
