-- Machines whose states say something else while their edges read and lead as before.
use Rattle.std.specs.Prelude.{ℕ, ◌+◌, Bool, cond, List, [], ◌∷◌, map}
use Rattle.rl_labels.specs.declared.carry.Carry.{Carry}
use Rattle.rl_labels.specs.Carries.{both_of}
use Rattle.rl_automata.specs.Auto.{Auto}
use Rattle.rl_fsm.specs.declared.edge.Edge.{Edge}
use Rattle.rl_fsm.specs.declared.state.State.{State}
use Rattle.rl_fsm.specs.Graphs.{Graph, fsm_auto, carry_out}
use Rattle.rl_embed.specs.declared.how.How.{How}
use Rattle.rl_embed.specs.Embeds.{on_step, on_out}

-- the states with the numbers from n on, each changed by its number
abbrev pub changed_from : (ℕ → State → State) → ℕ → List State → List State
changed_from f n [] = []
changed_from f n (s ∷ ss) = f n s ∷ changed_from f (n + 1) ss

abbrev pub changed : (ℕ → State → State) → Graph → Graph
changed f m = record { start = m.start; states = changed_from f 0 m.states }

-- the label beside the rest, where it is due
abbrev pub carried : Bool → Carry → Carry → Carry
carried due label c = cond due (both_of label c) c

-- ---- actions and priorities

module _ (how : How) (A : Auto ℕ) (label : Carry) where
  -- what the edge out of this state carries
  abbrev pub edge_carry : ℕ → Edge → Carry
  edge_carry from e = carried (on_step how A from e.target) label (record { actions = e.actions; table = e.priors })

  abbrev pub embedded_edge : ℕ → Edge → Edge
  embedded_edge from e = record {
    range = e.range;
    asks = e.asks;
    truths = e.truths;
    target = e.target;
    actions = (edge_carry from e).actions;
    priors = (edge_carry from e).table;
  }

  -- what the state of this number puts on the steps that leave it
  abbrev pub state_out : ℕ → State → Carry
  state_out n s = carried (on_out how A n) label (carry_out s.out)

  abbrev pub embedded_state : ℕ → State → State
  embedded_state n s = record {
    fin = s.fin;
    out = record { actions = (state_out n s).actions; priors = (state_out n s).table };
    marks = s.marks;
    edges = map (embedded_edge n) s.edges;
  }

-- the label is put on the steps and the outs where it is due
abbrev pub embedded : How → Carry → Graph → Graph
embedded how label m = changed (embedded_state how (fsm_auto m) label) m
