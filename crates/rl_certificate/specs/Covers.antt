-- When the edges of one state cover an edge of another.
use Rattle.std.specs.Prelude.{◌≡◌, ℤ, true, List, map, IsTrue, All}
use Rattle.rl_types.specs.KeyRange.{in_range}
use Rattle.rl_sets.specs.Sets.{In}
use Rattle.rl_fsm.specs.Reads.{ascend}
use Rattle.rl_minimal.specs.declared.state.MinEdge.{MinEdge}
use Rattle.rl_minimal.specs.Minimal.{reads_of}
use Rattle.rl_minimal.specs.Sound.{AreReads}

-- f is taken under the same conditions as e, with the same list
pub record IsLike (e f : MinEdge) : Type 0 where
  pub asks : e.asks.0 ≡ f.asks.0
  pub truths : e.truths.0 ≡ f.truths.0
  pub list : e.list ≡ f.list

-- one of the edges has the key and is like e
pub record HasLike (e : MinEdge) (edges : List MinEdge) (key : ℤ) : Type 0 where
  pub edge : MinEdge
  pub there : In edge edges
  pub has : in_range key edge.range ≡ true
  pub like : IsLike e edge

-- so it is at each key of e
pub record IsCovered (edges : List MinEdge) (e : MinEdge) : Type 0 where
  pub each : (key : ℤ) → in_range key e.range ≡ true → HasLike e edges key

-- they ascend, and each can be taken
pub record AreSound (edges : List MinEdge) : Type 0 where
  pub each : All AreReads edges
  pub ascending : IsTrue (ascend (map reads_of edges))
