-- The causes of faults are those of the node, whichever machines the operands have.
use Rattle.std.specs.Prelude.{ℕ, ◌↔◌}
use Rattle.rl_automata.specs.Auto.{union_auto, and_auto, minus_auto, both_jams, cat_auto, cat_jams, star_auto, star_jams}
use Rattle.rl_automata.specs.Marks.{Marks, auto}
use Rattle.rl_automata.specs.Nodes.{Node}
use Rattle.rl_explore.specs.declared.fault.BuildFault.{BuildFault}
use Rattle.rl_explore.specs.Numbers.{IsCause}
use Rattle.rl_fsm.specs.Builds.{Builds}
use Rattle.rl_fsm.specs.Graphs.{Graph, fsm_auto}

abbrev pub UnionCauses : Type 0
UnionCauses = (s t : Node) (k : Marks s) (h : Marks t) (a b : Graph) → Builds (auto s k) a → Builds (auto t h) b → (most : ℕ) (e : BuildFault)
    → IsCause (union_auto (fsm_auto a) (fsm_auto b)) (both_jams (fsm_auto a) (fsm_auto b)) most e ↔ IsCause (union_auto (auto s k) (auto t h)) (both_jams (auto s k) (auto t h)) most e

abbrev pub AndCauses : Type 0
AndCauses = (s t : Node) (k : Marks s) (h : Marks t) (a b : Graph) → Builds (auto s k) a → Builds (auto t h) b → (most : ℕ) (e : BuildFault)
    → IsCause (and_auto (fsm_auto a) (fsm_auto b)) (both_jams (fsm_auto a) (fsm_auto b)) most e ↔ IsCause (and_auto (auto s k) (auto t h)) (both_jams (auto s k) (auto t h)) most e

abbrev pub MinusCauses : Type 0
MinusCauses = (s t : Node) (k : Marks s) (h : Marks t) (a b : Graph) → Builds (auto s k) a → Builds (auto t h) b → (most : ℕ) (e : BuildFault)
    → IsCause (minus_auto (fsm_auto a) (fsm_auto b)) (both_jams (fsm_auto a) (fsm_auto b)) most e ↔ IsCause (minus_auto (auto s k) (auto t h)) (both_jams (auto s k) (auto t h)) most e

abbrev pub CatCauses : Type 0
CatCauses = (s t : Node) (k : Marks s) (h : Marks t) (a b : Graph) → Builds (auto s k) a → Builds (auto t h) b → (most : ℕ) (e : BuildFault)
    → IsCause (cat_auto (fsm_auto a) (fsm_auto b)) (cat_jams (fsm_auto a) (fsm_auto b)) most e ↔ IsCause (cat_auto (auto s k) (auto t h)) (cat_jams (auto s k) (auto t h)) most e

abbrev pub StarCauses : Type 0
StarCauses = (s : Node) (k : Marks s) (a : Graph) (base : ℕ) → Builds (auto s k) a → (most : ℕ) (e : BuildFault)
    → IsCause (star_auto (fsm_auto a) base) (star_jams (fsm_auto a) base) most e ↔ IsCause (star_auto (auto s k) base) (star_jams (auto s k) base) most e
