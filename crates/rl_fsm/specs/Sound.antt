-- What stands of every machine.
use Rattle.std.specs.Prelude.{◌≡◌, ℕ, ◌<◌, ◌≤◌, ◌≤ℤ◌, List, map, length, bit_and, IsTrue, All}
use Rattle.rl_fsm.specs.declared.edge.Edge.{Edge}
use Rattle.rl_fsm.specs.declared.state.State.{State}
use Rattle.rl_fsm.specs.Reads.{ascend}
use Rattle.rl_fsm.specs.Graphs.{Graph, reads_of}

-- the edge leads to one of n states, and its truths are among the conditions, of 8, that it asks
pub record IsEdge (n : ℕ) (e : Edge) : Type 0 where
  pub target : e.target < n
  pub truths : bit_and e.truths.0 e.asks.0 ≡ e.truths.0
  pub asks : e.asks.0 < 256
  pub keys : e.range.lo ≤ℤ e.range.hi

-- The edges of a state ascend by range and then by truths: two ranges are equal or disjoint, and edges of equal ranges
-- ask the same and have different truths.
pub record AreEdges (n : ℕ) (es : List Edge) : Type 0 where
  pub each : All (IsEdge n) es
  pub ascending : IsTrue (ascend (map reads_of es))

pub record IsSound (m : Graph) : Type 0 where
  pub few : length m.states ≤ 2147483646
  pub start : m.start < length m.states
  pub edges : All (λ (s : State). AreEdges (length m.states) s.edges) m.states
