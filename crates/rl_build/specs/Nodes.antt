-- When a node of an expression has a machine, and why it has none.
use Rattle.std.specs.Prelude.{ℕ, ◌<◌, ◌≤◌, List, [], ◌++◌, Result, MatchResult}
use Rattle.rl_types.specs.Limits.{most_configurations}
use Rattle.rl_automata.specs.Nodes as N
use Rattle.rl_automata.specs.Nodes.{Node}
use Rattle.rl_automata.specs.Marks.{HasMarks}
use Rattle.rl_automata.specs.Sites.{Below, AreHonestBelow, raw_auto, node_jams, Site, sites}
use Rattle.rl_explore.specs.declared.fault.BuildFault.{BuildFault}
use Rattle.rl_explore.specs.declared.fault.BuildFault.TheVariants.{L6, L8, F12, F15, Memory}
use Rattle.rl_explore.specs.Numbers.{IsCause, HasNoCause}
use Rattle.rl_fsm.specs.Builds.{StandsFor}
use Rattle.rl_fsm.specs.Graphs.{Graph}
use Rattle.rl_build.specs.declared.pairing.Pairing.{Pairing}
use Rattle.rl_build.specs.declared.pairing.Pairing.TheVariants as P

abbrev pub pair_node : Pairing → Node → Node → Node
pair_node P.Union s t = N.Union s t
pair_node P.And s t = N.And s t
pair_node P.Minus s t = N.Minus s t
pair_node P.Cat s t = N.Cat s t

-- the machine stands for the operand, which has honest tests
pub record IsOperand (t : Node) (m : Graph) : Type 0 where
  pub stands : StandsFor t m
  pub tests : HasMarks t

-- the machine stands for the node, which has honest tests, and there is no cause for a fault
pub record Accepts (t : Node) (most : ℕ) (m : Graph) : Type 0 where
  pub stands : StandsFor t m
  pub tests : HasMarks t
  pub clear : (k : Below t) → AreHonestBelow t k → HasNoCause (raw_auto t k) (node_jams t k) most

-- the fault has its cause
abbrev pub Fails : Node → ℕ → BuildFault → Type 0
Fails t most e = (k : Below t) → AreHonestBelow t k → IsCause (raw_auto t k) (node_jams t k) most e

-- a machine of the node, or a fault for its cause
abbrev pub IsMadeFor : Node → ℕ → Result Graph BuildFault → Type 0
IsMadeFor t most r = MatchResult r (Accepts t most) (Fails t most)

-- the fault that so many states are too many, where there may be `most`
abbrev pub IsOver : ℕ → ℕ → BuildFault → Type 0
IsOver states most L6 = most_configurations < states
IsOver states most L8 = (states ≤ most_configurations) × (most < states)
IsOver states most (F12 i) = ⊥
IsOver states most F15 = ⊥
IsOver states most Memory = ⊥

-- a node that neither prunes nor has candidates: it is a leaf, an embedding or a condition
abbrev pub IsPlain : Node → Type 0
IsPlain (N.Set ranges) = Unit {0}
IsPlain N.Null = Unit {0}
IsPlain N.Nothing = Unit {0}
IsPlain (N.Union a b) = ⊥
IsPlain (N.And a b) = ⊥
IsPlain (N.Minus a b) = ⊥
IsPlain (N.Cat a b) = ⊥
IsPlain (N.Star a n) = ⊥
IsPlain (N.Enter a l) = Unit {0}
IsPlain (N.Finish a l) = Unit {0}
IsPlain (N.All a l) = Unit {0}
IsPlain (N.Leave a l) = Unit {0}
IsPlain (N.Mark a class kind s x) = Unit {0}
IsPlain (N.When a c) = Unit {0}

-- the nodes of the operands, in post-order
abbrev pub sites_below : (t : Node) → Below t → List Site
sites_below (N.Set ranges) k = []
sites_below N.Null k = []
sites_below N.Nothing k = []
sites_below (N.Union a b) k = sites a k.0 ++ sites b k.1
sites_below (N.And a b) k = sites a k.0 ++ sites b k.1
sites_below (N.Minus a b) k = sites a k.0 ++ sites b k.1
sites_below (N.Cat a b) k = sites a k.0 ++ sites b k.1
sites_below (N.Star a n) k = sites a k
sites_below (N.Enter a l) k = sites a k
sites_below (N.Finish a l) k = sites a k
sites_below (N.All a l) k = sites a k
sites_below (N.Leave a l) k = sites a k
sites_below (N.Mark a class kind s x) k = sites a k
sites_below (N.When a c) k = sites a k
