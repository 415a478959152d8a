-- What stands of machines.
use Rattle.std.specs.Prelude.{◌≡◌, ℕ, ◌<◌, Some, length}
use Rattle.rl_sets.specs.Sets.{In}
use Rattle.rl_automata.specs.Follows.{Reach}
use Rattle.rl_fsm.specs.declared.edge.Edge.{Edge}
use Rattle.rl_fsm.specs.Reads.{own_letter}
use Rattle.rl_fsm.specs.Graphs.{Graph, reads_of, edge_for, edges_at, fsm_auto}

-- each edge is the one that the first key of its range and its truths find
abbrev pub FindsEachEdge : Graph → Type 0
FindsEachEdge m = (i : ℕ) (e : Edge) → In e (edges_at m i) → edge_for (own_letter (reads_of e)) (edges_at m i) ≡ Some e

-- each state is reached by some word
abbrev pub ReachesEachState : Graph → Type 0
ReachesEachState m = (i : ℕ) → i < length m.states → Reach (fsm_auto m) i
