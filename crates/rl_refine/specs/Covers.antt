-- When the edges of two states do the same, where states of one class are one.
use Rattle.std.specs.Prelude.{◌≡◌, ℕ, ℤ, true, List, map, Option, IsTrue, All}
use Rattle.std.specs.Option.{option_map}
use Rattle.rl_types.specs.KeyRange.{in_range}
use Rattle.rl_types.specs.declared.numbers.Letter.{Letter}
use Rattle.rl_sets.specs.Sets.{In}
use Rattle.rl_fsm.specs.Reads.{asks_at, ascend}
use Rattle.rl_run.specs.Machine.{Go}
use Rattle.rl_minimal.specs.declared.state.MinEdge.{MinEdge}
use Rattle.rl_minimal.specs.Minimal.{reads_of, numbers}
use Rattle.rl_minimal.specs.Machine.{edge_for}
use Rattle.rl_minimal.specs.Sound.{AreReads}
use Rattle.rl_refine.specs.Classes.{class_in}

-- the class where the edge leads, and its list
abbrev pub led_by : List ℕ → MinEdge → Go ℕ
led_by classes e = record { target = class_in classes e.target; list = numbers e.list }

abbrev pub led_on : List ℕ → Letter → List MinEdge → Option (Go ℕ)
led_on classes l edges = option_map (led_by classes) (edge_for l edges)

-- at every key both ask the same conditions, and on every letter both step, with the same list and to the same class,
-- or neither does
pub record StepAlike (classes : List ℕ) (es fs : List MinEdge) : Type 0 where
  pub asked : (key : ℤ) → asks_at key (map reads_of es) ≡ asks_at key (map reads_of fs)
  pub led : (l : Letter) → led_on classes l es ≡ led_on classes l fs

-- f is taken under the same conditions as e, with the same list, and leads to the same class
pub record IsLike (classes : List ℕ) (e f : MinEdge) : Type 0 where
  pub asks : e.asks.0 ≡ f.asks.0
  pub truths : e.truths.0 ≡ f.truths.0
  pub class : class_in classes e.target ≡ class_in classes f.target
  pub list : e.list ≡ f.list

-- one of the edges has the key and is like e
pub record HasLike (classes : List ℕ) (e : MinEdge) (edges : List MinEdge) (key : ℤ) : Type 0 where
  pub edge : MinEdge
  pub there : In edge edges
  pub has : in_range key edge.range ≡ true
  pub like : IsLike classes e edge

-- so it is at each key of e
pub record IsCovered (classes : List ℕ) (edges : List MinEdge) (e : MinEdge) : Type 0 where
  pub each : (key : ℤ) → in_range key e.range ≡ true → HasLike classes e edges key

-- they ascend, and each can be taken
pub record AreSound (edges : List MinEdge) : Type 0 where
  pub each : All AreReads edges
  pub ascending : IsTrue (ascend (map reads_of edges))
