-- The machine of classes of states.
use Rattle.std.specs.Prelude.{◌≡◌, ℕ, List, [], map, length, slice_get, unwrap_or}
use Rattle.std.specs.Option.{option_map_or}
use Rattle.rl_minimal.specs.declared.state.MinState.{MinState}
use Rattle.rl_minimal.specs.declared.state.MinEdge.{MinEdge}
use Rattle.rl_minimal.specs.Minimal.{Minimal}
use Rattle.rl_refine.specs.Classes.{AreClasses}
use Rattle.rl_min.specs.Numbering.{IsNumbering}

-- the number of a state's class, or the other where there is no such state
abbrev pub number_or : List ℕ → ℕ → ℕ → ℕ
number_or numbers state other = unwrap_or (slice_get numbers state) other

abbrev pub number_at : List ℕ → ℕ → ℕ
number_at numbers state = number_or numbers state 0

-- the edge, to the class of its target
abbrev pub merged_edge : List ℕ → MinEdge → MinEdge
merged_edge numbers e = record {
  range = e.range;
  asks = e.asks;
  truths = e.truths;
  target = number_at numbers e.target;
  list = e.list;
}

abbrev pub merged_state : List ℕ → MinState → MinState
merged_state numbers s = record {
  kind = s.kind;
  home = number_at numbers s.home;
  from = s.from;
  to = s.to;
  eof = s.eof;
  error = s.error;
  token = s.token;
  edges = map (merged_edge numbers) s.edges;
}

abbrev pub error_state : MinState
error_state = record { kind = 0; home = 0; from = []; to = []; eof = []; error = []; token = []; edges = [] }

-- the state of the class of a state
abbrev pub state_for : List MinState → List ℕ → ℕ → MinState
state_for of numbers state = option_map_or (merged_state numbers) (slice_get of state) error_state

-- the machine of the classes, of each of which a state is given
abbrev pub merged_of : Minimal → List ℕ → List ℕ → Minimal
merged_of m numbers states = record {
  states = map (state_for m.states numbers) states;
  entries = map (number_at numbers) m.entries;
  first_final = number_or numbers m.first_final (length states);
}

-- the machine of the classes of alike states, under the numbers of their first states
pub record IsMergedOf (m least : Minimal) : Type 0 where
  pub classes : List ℕ
  pub alike : AreClasses m classes
  pub numbers : List ℕ
  pub states : List ℕ
  pub numbering : IsNumbering classes numbers states
  pub made : least ≡ merged_of m numbers states
