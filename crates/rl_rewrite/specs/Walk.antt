-- The walk over an expression: it makes the tree, with its places, and gives stamps, bases and the numbers of priority names and
-- conditions (the guide's sections 2.5 and 3; the order of the walk is this profile's).
use Rattle.std.specs.Prelude.{ℕ, zero, ◌+◌, ◌-◌, ℤ, pos, Bool, true, false, ◌&&◌, cond, nat_eq, nat_lt, List, [], ◌∷◌, ◌++◌, length, replicate, Option, Some, None}
use Rattle.std.specs.List.{position_or_len}
use Rattle.std.specs.Option.{option_map}
use Rattle.rl_types.specs.declared.numbers.Place.{Place}
use Rattle.rl_types.specs.declared.numbers.ActionId.{ActionId}
use Rattle.rl_automata.specs.declared.tree.Label.TheVariants.{Action, Prior}
use Rattle.rl_automata.specs.declared.tree.Class.{Class}
use Rattle.rl_automata.specs.declared.tree.Class.TheVariants as class
use Rattle.rl_automata.specs.Nodes as n
use Rattle.rl_automata.specs.Nodes.{Node}
use Rattle.rl_automata.specs.Scans as root
use Rattle.rl_automata.specs.Scans.{Root, Pattern}
use Rattle.rl_draft.specs.declared.expression.Transitions.{Transitions}
use Rattle.rl_draft.specs.declared.expression.Transitions.TheVariants as t
use Rattle.rl_draft.specs.declared.expression.Put.{Put}
use Rattle.rl_draft.specs.declared.expression.Put.TheVariants as put
use Rattle.rl_rewrite.specs.declared.counts.Counts.{Counts}
use Rattle.rl_rewrite.specs.declared.layers.Layer.{Layer}
use Rattle.rl_rewrite.specs.declared.layers.Layer.TheVariants as layer
use Rattle.rl_rewrite.specs.Plain as p
use Rattle.rl_rewrite.specs.Plain.{Plain, Pairing, Guard, PlainPattern, PlainValue}

-- a tree with the place of each node, in post-order
pub record Placed : Type 0 where
  pub node : Node
  pub places : List Place

-- `Counts` has the last stamp, the priority names by their numbers (None is a name that rewriting made) and the conditions by theirs
abbrev pub Walk : Type 0 → Type 0
Walk A = Counts → A × Counts

-- ---- trees

abbrev pub single : Node → Place → Placed
single node at = record { node = node; places = at ∷ [] }

abbrev pub pair_node : Pairing → Node → Node → Node
pair_node p.Either a b = n.Union a b
pair_node p.Both a b = n.And a b
pair_node p.Less a b = n.Minus a b
pair_node p.Then a b = n.Cat a b

abbrev pub paired : Pairing → Placed → Placed → Place → Placed
paired pairing x y at = record { node = pair_node pairing x.node y.node; places = (x.places ++ y.places) ++ at ∷ [] }

abbrev pub star : Placed → ℕ → Place → Placed
star x base at = record { node = n.Star x.node base; places = x.places ++ at ∷ [] }

abbrev pub layer_node : Layer → Node → Node
layer_node (layer.Step t.Entering l) x = n.Enter x l
layer_node (layer.Step t.Finishing l) x = n.Finish x l
layer_node (layer.Step t.All l) x = n.All x l
layer_node (layer.Step t.Leaving l) x = n.Leave x l
layer_node (layer.State class kind stamp action) x = n.Mark x class kind stamp action.0
layer_node (layer.When condition) x = n.When x condition.0

abbrev pub layered : Layer → Placed → Place → Placed
layered l x at = record { node = layer_node l x.node; places = x.places ++ at ∷ [] }

-- a row from the left
abbrev pub row_behind : Placed → List Placed → Place → Placed
row_behind x [] at = x
row_behind x (y ∷ ys) at = row_behind (paired p.Then x y at) ys at

abbrev pub row : List Placed → Place → Placed
row [] at = single n.Null at
row (x ∷ xs) at = row_behind x xs at

-- ---- numbers

abbrev pub stamped : Counts → Counts
stamped c = record { stamp = c.stamp + 1; names = c.names; conditions = c.conditions }

abbrev pub is_name : ℕ → Option ℕ → Bool
is_name x None = false
is_name x (Some y) = nat_eq y x

-- how many names stand before this one, or in all where it is not there
abbrev pub names_before : ℕ → List (Option ℕ) → ℕ
names_before x names = position_or_len (is_name x) names

abbrev pub with_name : ℕ → Counts → Counts
with_name x c = record { stamp = c.stamp; names = cond (nat_eq (names_before x c.names) (length c.names)) (c.names ++ Some x ∷ []) c.names; conditions = c.conditions }

-- the number of a name that is made now
abbrev pub new_name : Counts → ℕ
new_name c = length c.names + 1

abbrev pub with_new_name : Counts → Counts
with_new_name c = record { stamp = c.stamp; names = c.names ++ None ∷ []; conditions = c.conditions }

abbrev pub conditions_before : ActionId → List ActionId → ℕ
conditions_before x conditions = position_or_len (λ y. nat_eq y.0 x.0) conditions

-- a ninth condition is one too many, so that no more are kept
abbrev pub with_condition : ActionId → Counts → Counts
with_condition x c = record { stamp = c.stamp; names = c.names; conditions = cond (nat_eq (conditions_before x c.conditions) (length c.conditions) && nat_lt (length c.conditions) 9) (c.conditions ++ x ∷ []) c.conditions }

-- ---- series of embeddings

-- what an embedding becomes where its turn comes
abbrev pub layer_of : Put → Walk Layer
layer_of (put.Action t x) c = (layer.Step t (Action (c.stamp + 1) x), stamped c)
layer_of (put.Priority t x v) c = (layer.Step t (Prior (c.stamp + 1) (names_before x c.names + 1) v), stamped (with_name x c))
layer_of (put.Mark class kind x) c = (layer.State class kind (c.stamp + 1) x, stamped c)
layer_of (put.When x) c = (layer.When (record { 0 = conditions_before x c.conditions + 1 }), with_condition x c)

abbrev pub is_entering : Transitions → Bool
is_entering t.Entering = true
is_entering t.Finishing = false
is_entering t.All = false
is_entering t.Leaving = false

abbrev pub is_start : Class → Bool
is_start class.Start = true
is_start class.NotStart = false
is_start class.All = false
is_start class.Final = false
is_start class.NotFinal = false
is_start class.Middle = false

-- its turn comes before the operand's walk
abbrev pub is_first : Put → Bool
is_first (put.Action t x) = is_entering t
is_first (put.Priority t x v) = is_entering t
is_first (put.Mark class kind x) = is_start class
is_first (put.When x) = false

-- the layers of those whose turn comes first
abbrev pub first_layers : List Put → Walk (List (Option Layer))
first_layers [] c = ([], c)
first_layers (p ∷ ps) c = cond (is_first p)
    (let x = layer_of p c in let y = first_layers ps x.1 in (Some x.0 ∷ y.0, y.1))
    (let y = first_layers ps c in (None ∷ y.0, y.1))

abbrev pub layer_or : Option Layer → Put → Walk Layer
layer_or None p c = layer_of p c
layer_or (Some l) p c = (l, c)

-- a series around a tree in order of appearance: those that have no layer get one
abbrev pub around : List Put → List (Option Layer) → Place → Placed → Walk Placed
around [] ls at x c = (x, c)
around (p ∷ ps) [] at x c = (x, c)
around (p ∷ ps) (l ∷ ls) at x c = let y = layer_or l p c in around ps ls at (layered y.0 x at) y.1

-- ---- repetitions

abbrev pub has_copies : ℕ → Option ℕ → Bool
has_copies zero (Some zero) = false
has_copies least most = true

abbrev pub optional : Placed → Place → Placed
optional x at = paired p.Either x (single n.Null at) at

abbrev pub bounded : ℕ → ℕ → Place → Placed → Placed
bounded least most at x = row (replicate least x ++ replicate (most - least) (optional x at)) at

-- so many copies, and then the rest of a count; all copies are the same tree
abbrev pub counted : ℕ → Option ℕ → Place → Placed → Walk Placed
counted least (Some most) at x c = (bounded least most at x, c)
counted least None at x c = (row (replicate least x ++ star x (c.stamp + 1) at ∷ []) at, stamped c)

-- `(a $(u,1) %(u,0))*` with a name u of its own
abbrev pub longest : Place → Placed → Walk Placed
longest at x c =
    let u = new_name c in
    let every = layered (layer.Step t.All (Prior (c.stamp + 1) u (pos 1))) x at in
    let leaving = layered (layer.Step t.Leaving (Prior (c.stamp + 2) u (pos 0))) every at in
    (star leaving (c.stamp + 3) at, stamped (stamped (stamped (with_new_name c))))

-- ---- guards

-- the values of the left operand's priority and of the right one's
abbrev pub left_value : Guard → ℤ
left_value p.Left = pos 1
left_value p.Entry = pos 0
left_value p.Finish = pos 0

abbrev pub right_value : Guard → ℤ
right_value p.Left = pos 0
right_value p.Entry = pos 1
right_value p.Finish = pos 1

-- `a $(u,v)`
abbrev pub guarded_left : Guard → ℕ → Place → Placed → Walk Placed
guarded_left g u at x c = (layered (layer.Step t.All (Prior (c.stamp + 1) u (left_value g))) x at, stamped c)

-- `b >(u,w)`, whose stamp comes before b's walk
abbrev pub entered : Guard → ℕ → Place → Walk Placed → Walk Placed
entered g u at walk_right c =
    let y = walk_right (stamped c) in
    (layered (layer.Step t.Entering (Prior (c.stamp + 1) u (right_value g))) y.0 at, y.1)

-- `b @(u,w)`
abbrev pub finished : Guard → ℕ → Place → Walk Placed → Walk Placed
finished g u at walk_right c =
    let y = walk_right c in
    (layered (layer.Step t.Finishing (Prior (y.1.stamp + 1) u (right_value g))) y.0 at, stamped y.1)

abbrev pub guarded_right : Guard → ℕ → Place → Walk Placed → Walk Placed
guarded_right p.Left u at walk_right c = entered p.Left u at walk_right c
guarded_right p.Entry u at walk_right c = entered p.Entry u at walk_right c
guarded_right p.Finish u at walk_right c = finished p.Finish u at walk_right c

-- ---- the walk

abbrev pub walk : Plain → Walk Placed
walk (p.Set ranges at) c = (single (n.Set ranges) at, c)
walk (p.Null at) c = (single n.Null at, c)
walk (p.Nothing at) c = (single n.Nothing at, c)
walk (p.Pair pairing a b at) c = let x = walk a c in let y = walk b x.1 in (paired pairing x.0 y.0 at, y.1)
walk (p.Guarded g a b at) c =
    let x = walk a c in
    let l = guarded_left g (new_name x.1) at x.0 (with_new_name x.1) in
    let y = guarded_right g (new_name x.1) at (walk b) l.1 in
    (paired p.Then l.0 y.0 at, y.1)
walk (p.Longest a at) c = let x = walk a c in longest at x.0 x.1
walk (p.Count a least most at) c = cond (has_copies least most) (let x = walk a c in counted least most at x.0 x.1) (single n.Null at, c)
walk (p.Series a ps at) c = let l = first_layers ps c in let x = walk a l.1 in around ps l.0 at x.0 x.1

-- ---- entries

-- the patterns of a scanner, with the place of each node of theirs: pattern after pattern, each in post-order
pub record PlacedPatterns : Type 0 where
  pub patterns : List Pattern
  pub places : List Place

abbrev pub no_patterns : PlacedPatterns
no_patterns = record { patterns = []; places = [] }

abbrev pub pattern_made : PlainPattern → Node → Pattern
pattern_made p node = record { tree = node; token = option_map (λ (a : ActionId). a.0) p.token }

abbrev pub with_pattern : PlainPattern → Placed → PlacedPatterns → PlacedPatterns
with_pattern p x later = record { patterns = pattern_made p x.node ∷ later.patterns; places = x.places ++ later.places }

-- one walk goes through all patterns, in text order
abbrev pub walk_patterns : List PlainPattern → Walk PlacedPatterns
walk_patterns [] c = (no_patterns, c)
walk_patterns (p ∷ ps) c = let x = walk p.plain c in let y = walk_patterns ps x.1 in (with_pattern p x.0 y.0, y.1)

-- the expression of an entry, or its patterns, with the place of each node; a scanner is a node behind those of its patterns
pub record PlacedRoot : Type 0 where
  pub root : Root
  pub places : List Place

abbrev pub walk_value : PlainValue → Walk PlacedRoot
walk_value (p.Expression e) c = let x = walk e c in (record { root = root.Plain x.0.node; places = x.0.places }, x.1)
walk_value (p.Scanner ps at) c = let x = walk_patterns ps c in (record { root = root.Scanner x.0.patterns; places = x.0.places ++ at ∷ [] }, x.1)

-- an entry begins with no stamp and no name; the conditions go on from entry to entry
abbrev pub begun : List ActionId → Counts
begun conditions = record { stamp = 0; names = []; conditions = conditions }
