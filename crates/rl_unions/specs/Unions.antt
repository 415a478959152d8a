-- Unions of many operands, without priorities.
use Rattle.std.specs.Prelude.{List, [], ◌∷◌}
use Rattle.rl_automata.specs.declared.tree.Label.{Label}
use Rattle.rl_automata.specs.declared.tree.Label.TheVariants.{Action, Prior}
use Rattle.rl_automata.specs.Follows.{Follows}
use Rattle.rl_automata.specs.Nodes as N
use Rattle.rl_automata.specs.Nodes.{Node, Conf}
use Rattle.rl_automata.specs.Marks.{Marks, auto, AreHonest}

-- the embedding puts on an action, and no priority
abbrev pub IsAction : Label → Type 0
IsAction (Action s x) = Unit {0}
IsAction (Prior s n v) = ⊥

-- no embedding of the expression puts on a priority
abbrev pub HasNoPriors : Node → Type 0
HasNoPriors (N.Set ranges) = Unit {0}
HasNoPriors N.Null = Unit {0}
HasNoPriors N.Nothing = Unit {0}
HasNoPriors (N.Union a b) = HasNoPriors a × HasNoPriors b
HasNoPriors (N.And a b) = HasNoPriors a × HasNoPriors b
HasNoPriors (N.Minus a b) = HasNoPriors a × HasNoPriors b
HasNoPriors (N.Cat a b) = HasNoPriors a × HasNoPriors b
HasNoPriors (N.Star a n) = HasNoPriors a
HasNoPriors (N.Enter a l) = IsAction l × HasNoPriors a
HasNoPriors (N.Finish a l) = IsAction l × HasNoPriors a
HasNoPriors (N.All a l) = IsAction l × HasNoPriors a
HasNoPriors (N.Leave a l) = IsAction l × HasNoPriors a
HasNoPriors (N.Mark a class kind s x) = HasNoPriors a
HasNoPriors (N.When a c) = HasNoPriors a

abbrev pub HaveNoPriors : List Node → Type 0
HaveNoPriors [] = Unit {0}
HaveNoPriors (t ∷ ts) = HasNoPriors t × HaveNoPriors ts

-- the union of several expressions as it is written, each operator joining the next one to all before: ((t | u) | v) ..
abbrev pub union_of : Node → List Node → Node
union_of t [] = t
union_of t (u ∷ us) = union_of (N.Union t u) us

-- s reaches, under other names, what t reaches, whichever honest tests of t are taken
abbrev pub MeansAs : Node → Node → Type 0
MeansAs s t = (k : Marks t) → AreHonest t k → (h : Marks s) × AreHonest s h × (name : Conf s → Conf t) × Follows (auto s h) (auto t k) name
