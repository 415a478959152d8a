-- The automaton of an expression. An intersection and a difference drop each step whose target can't end any more. No
-- function can tell that of every expression, so a test stands at each of the two in the tree, and an honest test is
-- one that tells the truth.
use Rattle.std.specs.Prelude.{Bool, true, false, Option}
use Rattle.rl_automata.specs.Auto.{Auto, set_auto, point_auto, union_auto, and_auto, minus_auto, cat_auto, star_auto, enter_auto, finish_auto, every_auto, leave_auto, mark_auto, when_auto, pruned, quiet}
use Rattle.rl_automata.specs.Nodes as N
use Rattle.rl_automata.specs.Nodes.{Node, Conf, carry_of, TellsLive}

-- a test of which configurations can still end, at each intersection and each difference of this tree
abbrev pub Marks : Node → Type 0
Marks (N.Set ranges) = Unit {0}
Marks N.Null = Unit {0}
Marks N.Nothing = Unit {0}
Marks (N.Union a b) = Marks a × Marks b
Marks (N.And a b) = Marks a × Marks b × (Option (Conf a) × Option (Conf b) → Bool)
Marks (N.Minus a b) = Marks a × Marks b × (Option (Conf a) × Option (Conf b) → Bool)
Marks (N.Cat a b) = Marks a × Marks b
Marks (N.Star a n) = Marks a
Marks (N.Enter a l) = Marks a
Marks (N.Finish a l) = Marks a
Marks (N.All a l) = Marks a
Marks (N.Leave a l) = Marks a
Marks (N.Mark a class kind s x) = Marks a
Marks (N.When a c) = Marks a

-- the automaton of the expression, pruned by these tests
abbrev pub auto : (t : Node) → Marks t → Auto (Conf t)
auto (N.Set ranges) k = set_auto ranges
auto N.Null k = point_auto true
auto N.Nothing k = point_auto false
auto (N.Union a b) k = quiet (union_auto (auto a k.0) (auto b k.1))
auto (N.And a b) k = pruned k.2 (and_auto (auto a k.0) (auto b k.1))
auto (N.Minus a b) k = pruned k.2 (minus_auto (auto a k.0) (auto b k.1))
auto (N.Cat a b) k = quiet (cat_auto (auto a k.0) (auto b k.1))
auto (N.Star a n) k = quiet (star_auto (auto a k) n)
auto (N.Enter a l) k = enter_auto (auto a k) (carry_of l)
auto (N.Finish a l) k = finish_auto (auto a k) (carry_of l)
auto (N.All a l) k = every_auto (auto a k) (carry_of l)
auto (N.Leave a l) k = leave_auto (auto a k) (carry_of l)
auto (N.Mark a class kind s x) k = mark_auto (auto a k) class kind (record { major = s; minor = 0; action = record { 0 = x } })
auto (N.When a c) k = when_auto c (auto a k)

-- each test tells the truth of its node
abbrev pub AreHonest : (t : Node) → Marks t → Type 0
AreHonest (N.Set ranges) k = Unit {0}
AreHonest N.Null k = Unit {0}
AreHonest N.Nothing k = Unit {0}
AreHonest (N.Union a b) k = AreHonest a k.0 × AreHonest b k.1
AreHonest (N.And a b) k = AreHonest a k.0 × AreHonest b k.1 × TellsLive (and_auto (auto a k.0) (auto b k.1)) k.2
AreHonest (N.Minus a b) k = AreHonest a k.0 × AreHonest b k.1 × TellsLive (minus_auto (auto a k.0) (auto b k.1)) k.2
AreHonest (N.Cat a b) k = AreHonest a k.0 × AreHonest b k.1
AreHonest (N.Star a n) k = AreHonest a k
AreHonest (N.Enter a l) k = AreHonest a k
AreHonest (N.Finish a l) k = AreHonest a k
AreHonest (N.All a l) k = AreHonest a k
AreHonest (N.Leave a l) k = AreHonest a k
AreHonest (N.Mark a class kind s x) k = AreHonest a k
AreHonest (N.When a c) k = AreHonest a k

-- there are honest tests for the tree
abbrev pub HasMarks : Node → Type 0
HasMarks t = (k : Marks t) × AreHonest t k
