-- The places of an expression at which it can be refused: its nodes in post-order, each before its own pruning, and for
-- a scanner the nodes of its patterns and then the scanner itself.
use Rattle.std.specs.Prelude.{Bool, true, false, List, [], ◌∷◌, ◌++◌}
use Rattle.rl_types.specs.declared.numbers.Letter.{Letter}
use Rattle.rl_automata.specs.Auto.{Auto, set_auto, point_auto, union_auto, and_auto, minus_auto, cat_auto, star_auto, enter_auto, finish_auto, every_auto, leave_auto, mark_auto, when_auto, both_jams, cat_jams, star_jams}
use Rattle.rl_automata.specs.Nodes as N
use Rattle.rl_automata.specs.Nodes.{Node, Conf, carry_of}
use Rattle.rl_automata.specs.Marks.{Marks, auto, AreHonest}
use Rattle.rl_automata.specs.Scans.{Pattern, Confs, PatternMarks, ArePatternsHonest, scan_raw, scan_jams, Root, Plain, Scanner}

-- the tests of the node's operands
abbrev pub Below : Node → Type 0
Below (N.Set ranges) = Unit {0}
Below N.Null = Unit {0}
Below N.Nothing = Unit {0}
Below (N.Union a b) = Marks a × Marks b
Below (N.And a b) = Marks a × Marks b
Below (N.Minus a b) = Marks a × Marks b
Below (N.Cat a b) = Marks a × Marks b
Below (N.Star a n) = Marks a
Below (N.Enter a l) = Marks a
Below (N.Finish a l) = Marks a
Below (N.All a l) = Marks a
Below (N.Leave a l) = Marks a
Below (N.Mark a class kind s x) = Marks a
Below (N.When a c) = Marks a

abbrev pub AreHonestBelow : (t : Node) → Below t → Type 0
AreHonestBelow (N.Set ranges) k = Unit {0}
AreHonestBelow N.Null k = Unit {0}
AreHonestBelow N.Nothing k = Unit {0}
AreHonestBelow (N.Union a b) k = AreHonest a k.0 × AreHonest b k.1
AreHonestBelow (N.And a b) k = AreHonest a k.0 × AreHonest b k.1
AreHonestBelow (N.Minus a b) k = AreHonest a k.0 × AreHonest b k.1
AreHonestBelow (N.Cat a b) k = AreHonest a k.0 × AreHonest b k.1
AreHonestBelow (N.Star a n) k = AreHonest a k
AreHonestBelow (N.Enter a l) k = AreHonest a k
AreHonestBelow (N.Finish a l) k = AreHonest a k
AreHonestBelow (N.All a l) k = AreHonest a k
AreHonestBelow (N.Leave a l) k = AreHonest a k
AreHonestBelow (N.Mark a class kind s x) k = AreHonest a k
AreHonestBelow (N.When a c) k = AreHonest a k

-- the node's automaton before its own pruning
abbrev pub raw_auto : (t : Node) → Below t → Auto (Conf t)
raw_auto (N.Set ranges) k = set_auto ranges
raw_auto N.Null k = point_auto true
raw_auto N.Nothing k = point_auto false
raw_auto (N.Union a b) k = union_auto (auto a k.0) (auto b k.1)
raw_auto (N.And a b) k = and_auto (auto a k.0) (auto b k.1)
raw_auto (N.Minus a b) k = minus_auto (auto a k.0) (auto b k.1)
raw_auto (N.Cat a b) k = cat_auto (auto a k.0) (auto b k.1)
raw_auto (N.Star a n) k = star_auto (auto a k) n
raw_auto (N.Enter a l) k = enter_auto (auto a k) (carry_of l)
raw_auto (N.Finish a l) k = finish_auto (auto a k) (carry_of l)
raw_auto (N.All a l) k = every_auto (auto a k) (carry_of l)
raw_auto (N.Leave a l) k = leave_auto (auto a k) (carry_of l)
raw_auto (N.Mark a class kind s x) k = mark_auto (auto a k) class kind (record { major = s; minor = 0; action = record { 0 = x } })
raw_auto (N.When a c) k = when_auto c (auto a k)

-- whether the node's candidates at this configuration and letter are a cycle of priorities
abbrev pub node_jams : (t : Node) → Below t → Conf t → Letter → Bool
node_jams (N.Set ranges) k c l = false
node_jams N.Null k c l = false
node_jams N.Nothing k c l = false
node_jams (N.Union a b) k c l = both_jams (auto a k.0) (auto b k.1) c l
node_jams (N.And a b) k c l = both_jams (auto a k.0) (auto b k.1) c l
node_jams (N.Minus a b) k c l = both_jams (auto a k.0) (auto b k.1) c l
node_jams (N.Cat a b) k c l = cat_jams (auto a k.0) (auto b k.1) c l
node_jams (N.Star a n) k c l = star_jams (auto a k) n c l
node_jams (N.Enter a x) k c l = false
node_jams (N.Finish a x) k c l = false
node_jams (N.All a x) k c l = false
node_jams (N.Leave a x) k c l = false
node_jams (N.Mark a class kind s x) k c l = false
node_jams (N.When a x) k c l = false

-- a node with the tests of its operands, or a scanner with those of its patterns
pub data Site : Type 0 where
  AtNode : (t : Node) → Below t → Site
  AtScanner : (ps : List Pattern) → PatternMarks ps → Site

abbrev pub SiteConf : Site → Type 0
SiteConf (AtNode t k) = Conf t
SiteConf (AtScanner ps k) = Confs ps

abbrev pub site_auto : (x : Site) → Auto (SiteConf x)
site_auto (AtNode t k) = raw_auto t k
site_auto (AtScanner ps k) = scan_raw ps k

abbrev pub site_jams : (x : Site) → SiteConf x → Letter → Bool
site_jams (AtNode t k) c l = node_jams t k c l
site_jams (AtScanner ps k) c l = scan_jams ps k c l

abbrev pub IsHonestSite : Site → Type 0
IsHonestSite (AtNode t k) = AreHonestBelow t k
IsHonestSite (AtScanner ps k) = ArePatternsHonest ps k

-- the nodes of an expression in post-order
abbrev pub sites : (t : Node) → Marks t → List Site
sites (N.Set ranges) k = AtNode (N.Set ranges) tt ∷ []
sites N.Null k = AtNode N.Null tt ∷ []
sites N.Nothing k = AtNode N.Nothing tt ∷ []
sites (N.Union a b) k = sites a k.0 ++ sites b k.1 ++ AtNode (N.Union a b) (k.0, k.1) ∷ []
sites (N.And a b) k = sites a k.0 ++ sites b k.1 ++ AtNode (N.And a b) (k.0, k.1) ∷ []
sites (N.Minus a b) k = sites a k.0 ++ sites b k.1 ++ AtNode (N.Minus a b) (k.0, k.1) ∷ []
sites (N.Cat a b) k = sites a k.0 ++ sites b k.1 ++ AtNode (N.Cat a b) (k.0, k.1) ∷ []
sites (N.Star a n) k = sites a k ++ AtNode (N.Star a n) k ∷ []
sites (N.Enter a l) k = sites a k ++ AtNode (N.Enter a l) k ∷ []
sites (N.Finish a l) k = sites a k ++ AtNode (N.Finish a l) k ∷ []
sites (N.All a l) k = sites a k ++ AtNode (N.All a l) k ∷ []
sites (N.Leave a l) k = sites a k ++ AtNode (N.Leave a l) k ∷ []
sites (N.Mark a class kind s x) k = sites a k ++ AtNode (N.Mark a class kind s x) k ∷ []
sites (N.When a c) k = sites a k ++ AtNode (N.When a c) k ∷ []

abbrev pub pattern_sites : (ps : List Pattern) → PatternMarks ps → List Site
pattern_sites [] k = []
pattern_sites (p ∷ ps) k = sites p.tree k.0 ++ pattern_sites ps k.1

-- ---- entries

abbrev pub RootMarks : Root → Type 0
RootMarks (Plain t) = Marks t
RootMarks (Scanner ps) = PatternMarks ps

abbrev pub IsRootHonest : (x : Root) → RootMarks x → Type 0
IsRootHonest (Plain t) k = AreHonest t k
IsRootHonest (Scanner ps) k = ArePatternsHonest ps k

abbrev pub root_sites : (x : Root) → RootMarks x → List Site
root_sites (Plain t) k = sites t k
root_sites (Scanner ps) k = pattern_sites ps k ++ AtScanner ps k ∷ []

abbrev pub AllRootMarks : List Root → Type 0
AllRootMarks [] = Unit {0}
AllRootMarks (x ∷ xs) = RootMarks x × AllRootMarks xs

abbrev pub AreRootsHonest : (xs : List Root) → AllRootMarks xs → Type 0
AreRootsHonest [] k = Unit {0}
AreRootsHonest (x ∷ xs) k = IsRootHonest x k.0 × AreRootsHonest xs k.1

-- the sites of all entries, one entry after the other
abbrev pub all_sites : (xs : List Root) → AllRootMarks xs → List Site
all_sites [] k = []
all_sites (x ∷ xs) k = root_sites x k.0 ++ all_sites xs k.1
