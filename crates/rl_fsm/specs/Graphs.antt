-- The automaton of a machine.
use Rattle.std.specs.Prelude.{ℕ, Bool, false, List, [], map, Option, None, slice_get}
use Rattle.std.specs.Option.{option_map}
use Rattle.std.specs.Ordering.{nat_cmp}
use Rattle.std.specs.List.{find}
use Rattle.rl_types.specs.declared.numbers.Letter.{Letter}
use Rattle.rl_types.specs.KeyRange.{Range}
use Rattle.rl_labels.specs.declared.carry.Carry.{Carry}
use Rattle.rl_labels.specs.declared.stamped.Stamp.{Stamp}
use Rattle.rl_labels.specs.Carries.{no_carry}
use Rattle.rl_automata.specs.declared.moves.Move.{Move}
use Rattle.rl_automata.specs.declared.tree.Kind.{Kind}
use Rattle.rl_automata.specs.declared.tree.Kind.TheVariants.{To, From, Eof, Error}
use Rattle.rl_automata.specs.Auto.{Auto, on_part, is_none_left}
use Rattle.rl_fsm.specs.declared.edge.Edge.{Edge}
use Rattle.rl_fsm.specs.declared.state.Out.{Out}
use Rattle.rl_fsm.specs.declared.state.Marks.{Marks}
use Rattle.rl_fsm.specs.declared.state.State.{State}
use Rattle.rl_fsm.specs.Reads.{Reads, takes, asks_at}

-- What contracts see of a machine: its states, which have the numbers from 0, and the number of the start.
pub record Graph : Type 0 where
  pub start : ℕ
  pub states : List State

abbrev pub state_at : Graph → ℕ → Option State
state_at m i = slice_get m.states i

abbrev pub reads_of : Edge → Reads
reads_of e = record { range = e.range; asks = e.asks.0; truths = e.truths.0 }

abbrev pub edge_for : Letter → List Edge → Option Edge
edge_for l es = find (λ e. takes l (reads_of e)) es

abbrev pub move_of : Edge → Move ℕ
move_of e = record { to = e.target; carry = record { actions = e.actions; table = e.priors } }

abbrev pub carry_out : Out → Carry
carry_out o = record { actions = o.actions; table = o.priors }

abbrev pub marks_of : Kind → Marks → List Stamp
marks_of To m = m.to
marks_of From m = m.from
marks_of Eof m = m.eof
marks_of Error m = m.error

abbrev pub edges_at : Graph → ℕ → List Edge
edges_at m i = on_part [] (λ (s : State). s.edges) (state_at m i)

-- the state of this number has no edge
abbrev pub has_no_edge : Graph → ℕ → Bool
has_no_edge m i = is_none_left (edges_at m i)

abbrev pub ranges_of : List Edge → List Range
ranges_of es = map (λ (e : Edge). e.range) es

abbrev pub ranges_at : Graph → ℕ → List Range
ranges_at m i = on_part [] (λ (s : State). ranges_of s.edges) (state_at m i)

-- its configurations are the numbers of the states; a number that no state has does nothing
abbrev pub fsm_auto : Graph → Auto ℕ
fsm_auto m = record {
  order = nat_cmp;
  start = m.start;
  step = λ i l. on_part None (λ (s : State). option_map move_of (edge_for l s.edges)) (state_at m i);
  final = λ i. on_part false (λ (s : State). s.fin) (state_at m i);
  out = λ i. on_part no_carry (λ (s : State). carry_out s.out) (state_at m i);
  marks = λ i k. on_part [] (λ (s : State). marks_of k s.marks) (state_at m i);
  asked = λ i k. on_part 0 (λ (s : State). asks_at k (map reads_of s.edges)) (state_at m i);
}
