-- The machines of one character, of the empty word, and of no word.
use Rattle.std.specs.Prelude.{Bool, true, false, List, [], ◌∷◌, map}
use Rattle.std.specs.List.{filter, list_any}
use Rattle.rl_types.specs.KeyRange.{Range, in_range}
use Rattle.rl_fsm.specs.declared.edge.Edge.{Edge}
use Rattle.rl_fsm.specs.declared.state.State.{State}
use Rattle.rl_fsm.specs.Graphs.{Graph}

-- a state that carries nothing
abbrev pub plain_state : Bool → List Edge → State
plain_state fin edges = record {
  fin = fin;
  out = record { actions = []; priors = [] };
  marks = record { to = []; from = []; eof = []; error = [] };
  edges = edges;
}

-- to the second state, at the keys of the range
abbrev pub set_edge : Range → Edge
set_edge range = record { range = range; asks = record { 0 = 0 }; truths = record { 0 = 0 }; target = 1; actions = []; priors = [] }

-- the pieces that lie in the set
abbrev pub pieces_in : List Range → List Range → List Range
pieces_in set pieces = filter (λ p. list_any (in_range p.lo) set) pieces

-- the state before the character and, if there is a key for it, the state after it
abbrev pub states_for : List Edge → List State
states_for [] = plain_state false [] ∷ []
states_for (e ∷ es) = plain_state false (e ∷ es) ∷ plain_state true [] ∷ []

abbrev pub set_graph : List Range → Graph
set_graph pieces = record { start = 0; states = states_for (map set_edge pieces) }

abbrev pub point_graph : Bool → Graph
point_graph fin = record { start = 0; states = plain_state fin [] ∷ [] }
