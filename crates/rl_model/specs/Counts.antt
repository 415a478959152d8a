-- What stands in an expression, and how large it is.
use Rattle.std.specs.Prelude.{ℕ, ◌+◌, max, List, [], ◌∷◌, ◌++◌, map, flat_map, sum_by, option_to_list}
use Rattle.rl_automata.specs.declared.tree.Label.{Label}
use Rattle.rl_automata.specs.declared.tree.Label.TheVariants.{Action, Prior}
use Rattle.rl_automata.specs.declared.tree.Kind.{Kind}
use Rattle.rl_automata.specs.declared.tree.Kind.TheVariants as K
use Rattle.rl_automata.specs.Nodes as N
use Rattle.rl_automata.specs.Nodes.{Node}
use Rattle.rl_automata.specs.Scans.{Pattern, Root, Plain, Scanner}

-- ---- an expression

-- how many nodes it has
abbrev pub size_of : Node → ℕ
size_of (N.Set ranges) = 1
size_of N.Null = 1
size_of N.Nothing = 1
size_of (N.Union a b) = size_of a + size_of b + 1
size_of (N.And a b) = size_of a + size_of b + 1
size_of (N.Minus a b) = size_of a + size_of b + 1
size_of (N.Cat a b) = size_of a + size_of b + 1
size_of (N.Star a n) = size_of a + 1
size_of (N.Enter a l) = size_of a + 1
size_of (N.Finish a l) = size_of a + 1
size_of (N.All a l) = size_of a + 1
size_of (N.Leave a l) = size_of a + 1
size_of (N.Mark a class kind s x) = size_of a + 1
size_of (N.When a c) = size_of a + 1

-- how many nodes there are on its longest way from the root to a leaf
abbrev pub depth_of : Node → ℕ
depth_of (N.Set ranges) = 1
depth_of N.Null = 1
depth_of N.Nothing = 1
depth_of (N.Union a b) = max (depth_of a) (depth_of b) + 1
depth_of (N.And a b) = max (depth_of a) (depth_of b) + 1
depth_of (N.Minus a b) = max (depth_of a) (depth_of b) + 1
depth_of (N.Cat a b) = max (depth_of a) (depth_of b) + 1
depth_of (N.Star a n) = depth_of a + 1
depth_of (N.Enter a l) = depth_of a + 1
depth_of (N.Finish a l) = depth_of a + 1
depth_of (N.All a l) = depth_of a + 1
depth_of (N.Leave a l) = depth_of a + 1
depth_of (N.Mark a class kind s x) = depth_of a + 1
depth_of (N.When a c) = depth_of a + 1

abbrev pub label_actions : Label → List ℕ
label_actions (Action s x) = x.0 ∷ []
label_actions (Prior s n v) = []

-- the actions that it embeds
abbrev pub actions_in : Node → List ℕ
actions_in (N.Set ranges) = []
actions_in N.Null = []
actions_in N.Nothing = []
actions_in (N.Union a b) = actions_in a ++ actions_in b
actions_in (N.And a b) = actions_in a ++ actions_in b
actions_in (N.Minus a b) = actions_in a ++ actions_in b
actions_in (N.Cat a b) = actions_in a ++ actions_in b
actions_in (N.Star a n) = actions_in a
actions_in (N.Enter a l) = label_actions l ++ actions_in a
actions_in (N.Finish a l) = label_actions l ++ actions_in a
actions_in (N.All a l) = label_actions l ++ actions_in a
actions_in (N.Leave a l) = label_actions l ++ actions_in a
actions_in (N.Mark a class kind s x) = x ∷ actions_in a
actions_in (N.When a c) = actions_in a

-- the action of a mark, if it is a to-state or a from-state action
abbrev pub turn_action : Kind → ℕ → List ℕ
turn_action K.To x = x ∷ []
turn_action K.From x = x ∷ []
turn_action K.Eof x = []
turn_action K.Error x = []

-- its to-state and from-state actions
abbrev pub turn_actions_in : Node → List ℕ
turn_actions_in (N.Set ranges) = []
turn_actions_in N.Null = []
turn_actions_in N.Nothing = []
turn_actions_in (N.Union a b) = turn_actions_in a ++ turn_actions_in b
turn_actions_in (N.And a b) = turn_actions_in a ++ turn_actions_in b
turn_actions_in (N.Minus a b) = turn_actions_in a ++ turn_actions_in b
turn_actions_in (N.Cat a b) = turn_actions_in a ++ turn_actions_in b
turn_actions_in (N.Star a n) = turn_actions_in a
turn_actions_in (N.Enter a l) = turn_actions_in a
turn_actions_in (N.Finish a l) = turn_actions_in a
turn_actions_in (N.All a l) = turn_actions_in a
turn_actions_in (N.Leave a l) = turn_actions_in a
turn_actions_in (N.Mark a class kind s x) = turn_action kind x ++ turn_actions_in a
turn_actions_in (N.When a c) = turn_actions_in a

abbrev pub label_stamp : Label → ℕ
label_stamp (Action s x) = s
label_stamp (Prior s n v) = s

-- the stamps of its embeddings and the bases of its repetitions
abbrev pub stamps_in : Node → List ℕ
stamps_in (N.Set ranges) = []
stamps_in N.Null = []
stamps_in N.Nothing = []
stamps_in (N.Union a b) = stamps_in a ++ stamps_in b
stamps_in (N.And a b) = stamps_in a ++ stamps_in b
stamps_in (N.Minus a b) = stamps_in a ++ stamps_in b
stamps_in (N.Cat a b) = stamps_in a ++ stamps_in b
stamps_in (N.Star a n) = n ∷ stamps_in a
stamps_in (N.Enter a l) = label_stamp l ∷ stamps_in a
stamps_in (N.Finish a l) = label_stamp l ∷ stamps_in a
stamps_in (N.All a l) = label_stamp l ∷ stamps_in a
stamps_in (N.Leave a l) = label_stamp l ∷ stamps_in a
stamps_in (N.Mark a class kind s x) = s ∷ stamps_in a
stamps_in (N.When a c) = stamps_in a

-- ---- an entry

-- a scanner is one node beside those of its patterns
abbrev pub root_size : Root → ℕ
root_size (Plain t) = size_of t
root_size (Scanner ps) = sum_by (λ p. size_of p.tree) ps + 1

abbrev pub deepest : List Pattern → ℕ
deepest [] = 0
deepest (p ∷ ps) = max (depth_of p.tree) (deepest ps)

-- it is as deep as its deepest pattern
abbrev pub root_depth : Root → ℕ
root_depth (Plain t) = depth_of t
root_depth (Scanner ps) = deepest ps

-- the expressions of an entry
abbrev pub trees_of : Root → List Node
trees_of (Plain t) = t ∷ []
trees_of (Scanner ps) = map (λ p. p.tree) ps

-- the expressions that are patterns
abbrev pub pattern_trees : Root → List Node
pattern_trees (Plain t) = []
pattern_trees (Scanner ps) = map (λ p. p.tree) ps

-- the actions of its tokens
abbrev pub token_actions : Root → List ℕ
token_actions (Plain t) = []
token_actions (Scanner ps) = flat_map (λ (p : Pattern). option_to_list p.token) ps
