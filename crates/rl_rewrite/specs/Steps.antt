-- What the code's values stand for, and what its steps compute.
use Rattle.std.specs.Prelude.{◌≡◌, ℕ, ◌+◌, ◌*◌, ◌-◌, ◌<◌, ◌≤◌, ◌^◌, Bool, true, cond, List, [], ◌∷◌, ◌++◌, map, length, Option, Some, None, is_none}
use Rattle.rl_types.specs.declared.alphabet.Alphabet.{Alphabet}
use Rattle.rl_types.specs.declared.numbers.Place.{Place}
use Rattle.rl_types.specs.KeyRange.{Range}
use Rattle.std.specs.List.{list_all}
use Rattle.rl_automata.specs.Nodes as n
use Rattle.rl_automata.specs.Nodes.{node_of}
use Rattle.rl_automata.specs.declared.tree.Label.{Label}
use Rattle.rl_automata.specs.declared.tree.Label.TheVariants.{Prior}
use Rattle.rl_model.specs.declared.spec.Pattern.{Pattern as Made_pattern}
use Rattle.rl_model.specs.Specification.{pattern_of, root_of}
use Rattle.rl_draft.specs.declared.draft.Pattern.{Pattern}
use Rattle.rl_draft.specs.declared.expression.Transitions.{Transitions}
use Rattle.rl_draft.specs.declared.expression.Transitions.TheVariants as t
use Rattle.rl_draft.specs.declared.expression.Item.{Item}
use Rattle.rl_draft.specs.declared.expression.Join.{Join}
use Rattle.rl_draft.specs.declared.expression.Join.TheVariants as join
use Rattle.rl_draft.specs.declared.expression.Repetition.{Repetition}
use Rattle.rl_draft.specs.declared.expression.Repetition.TheVariants as repetition
use Rattle.rl_rewrite.specs.declared.counts.Counts.{Counts}
use Rattle.rl_rewrite.specs.declared.joins.Opening.{Opening}
use Rattle.rl_rewrite.specs.declared.joins.Opening.TheVariants as opening
use Rattle.rl_rewrite.specs.declared.joins.Guard as rust_guard
use Rattle.rl_rewrite.specs.declared.joins.Guard.TheVariants as guard
use Rattle.rl_rewrite.specs.declared.layers.Layer.TheVariants as layer
use Rattle.rl_rewrite.specs.declared.patterns.Patterns as rust_patterns
use Rattle.rl_rewrite.specs.declared.patterns.Rooted as rust_root
use Rattle.rl_rewrite.specs.declared.placed.Placed as rust
use Rattle.rl_rewrite.specs.declared.placed.Pairing as rust_pairing
use Rattle.rl_rewrite.specs.declared.placed.Pairing.TheVariants as pairing
use Rattle.rl_rewrite.specs.Plain as p
use Rattle.rl_rewrite.specs.Plain.{Plain, Pairing, Guard, Operand, PlainPattern, every, no_place}
use Rattle.rl_rewrite.specs.Walk.{Walk, Placed, PlacedPatterns, PlacedRoot, walk, pattern_made, has_copies, counted, longest, paired, row, row_behind, single, star, guarded_left, right_value, layered, stamped, new_name, with_new_name}
use Rattle.rl_rewrite.specs.Sizes.{nodes}

abbrev pub placed_of : rust.Placed → Placed
placed_of x = record { node = node_of x.tree; places = x.places }

abbrev pub pairing_of : rust_pairing.Pairing → Pairing
pairing_of pairing.Either = p.Either
pairing_of pairing.Both = p.Both
pairing_of pairing.Less = p.Less
pairing_of pairing.Then = p.Then

-- a name has a stamp of its own, and no more than nine conditions are kept
abbrev pub AreFew : Counts → Type 0
AreFew c = (length c.names ≤ c.stamp) × (length c.conditions ≤ 9)

-- the stamps of so many nodes fit
abbrev pub HasRoom : Counts → ℕ → Type 0
HasRoom c k = (c.stamp + 3 * k < 2 ^ 32 - 1) × AreFew c

-- the stamps of so many nodes
abbrev pub MayStamp : ℕ → Counts → Counts → Type 0
MayStamp k before after = after.stamp ≤ before.stamp + 3 * k

-- a walk comes to this tree and these counts
abbrev pub Gives : Placed × Counts → rust.Placed → Counts → Type 0
Gives walked made after = (placed_of made, after) ≡ walked

-- ---- rows

-- a tree behind those before it
abbrev pub appended : Option rust.Placed → Placed → Place → Placed
appended None x at = x
appended (Some y) x at = paired p.Then (placed_of y) x at

-- the row that a tree, if there is one, begins
abbrev pub goes_on : Option rust.Placed → List Placed → Place → Placed
goes_on None xs at = row xs at
goes_on (Some y) xs at = row_behind (placed_of y) xs at

-- ---- repetitions

abbrev pub copies : Repetition → Bool
copies repetition.Star = true
copies repetition.LongestStar = true
copies repetition.Optional = true
copies repetition.Plus = true
copies (repetition.Count bounds) = has_copies bounds.least bounds.most

abbrev pub are_copies : List Repetition → Bool
are_copies rs = list_all copies rs

-- the repetitions behind the last one that makes no copy
abbrev pub behind_uncopied : List Repetition → List Repetition
behind_uncopied [] = []
behind_uncopied (r ∷ rs) = cond (are_copies rs) (cond (copies r) (r ∷ rs) rs) (behind_uncopied rs)

abbrev pub repeated_on : Repetition → Place → Placed → Walk Placed
repeated_on repetition.Star at x c = counted 0 None at x c
repeated_on repetition.LongestStar at x c = longest at x c
repeated_on repetition.Optional at x c = counted 0 (Some 1) at x c
repeated_on repetition.Plus at x c = counted 1 None at x c
repeated_on (repetition.Count bounds) at x c = counted bounds.least bounds.most at x c

abbrev pub all_repeated_on : List Repetition → Place → Placed → Walk Placed
all_repeated_on [] at x c = (x, c)
all_repeated_on (r ∷ rs) at x c = let y = repeated_on r at x c in all_repeated_on rs at y.0 y.1

-- ---- chains

abbrev pub guard_of : rust_guard.Guard → Guard
guard_of guard.Left = p.Left
guard_of guard.Entry = p.Entry
guard_of guard.Finish = p.Finish

-- a left operand with all that is done before the right one's walk
pub data Opened : Type 0 where
  Pair : Pairing → Placed → Opened
  Strong : Placed → Placed → Opened
  Entering : Placed → Label → Opened
  Finishing : Placed → ℕ → Opened

abbrev pub opened_of : Opening → Opened
opened_of (opening.Pair pairing x) = Pair (pairing_of pairing) (placed_of x)
opened_of (opening.Strong x y) = Strong (placed_of x) (placed_of y)
opened_of (opening.Entering x l) = Entering (placed_of x) l
opened_of (opening.Finishing x u) = Finishing (placed_of x) u

abbrev pub opened_strong : Alphabet → Place → Placed → Walk Opened
opened_strong alphabet at x c = let e = walk (every alphabet at) c in (Strong x e.0, e.1)

abbrev pub opened_entering : Guard → Place → Placed → Walk Opened
opened_entering g at x c =
    let l = guarded_left g (new_name c) at x (with_new_name c) in
    (Entering l.0 (Prior (l.1.stamp + 1) (new_name c) (right_value g)), stamped l.1)

abbrev pub opened_finishing : Place → Placed → Walk Opened
opened_finishing at x c = let l = guarded_left p.Finish (new_name c) at x (with_new_name c) in (Finishing l.0 (new_name c), l.1)

abbrev pub opened : Alphabet → Join → Place → Placed → Walk Opened
opened alphabet join.Union at x c = (Pair p.Either x, c)
opened alphabet join.Intersection at x c = (Pair p.Both x, c)
opened alphabet join.Difference at x c = (Pair p.Less x, c)
opened alphabet join.StrongDifference at x c = opened_strong alphabet at x c
opened alphabet join.Concatenation at x c = (Pair p.Then x, c)
opened alphabet join.LeftGuarded at x c = opened_entering p.Left at x c
opened alphabet join.EntryGuarded at x c = opened_entering p.Entry at x c
opened alphabet join.FinishGuarded at x c = opened_finishing at x c

abbrev pub closed_strong : Alphabet → Place → Placed → Placed → Placed → Walk Placed
closed_strong alphabet at x e y c = let f = walk (every alphabet at) c in (paired p.Less x (paired p.Then (paired p.Then e y at) f.0 at) at, f.1)

abbrev pub closed_guard : Transitions → Label → Place → Placed → Placed → Placed
closed_guard t l at x y = paired p.Then x (layered (layer.Step t l) y at) at

abbrev pub closed : Alphabet → Place → Opened → Placed → Walk Placed
closed alphabet at (Pair pairing x) y c = (paired pairing x y at, c)
closed alphabet at (Strong x e) y c = closed_strong alphabet at x e y c
closed alphabet at (Entering x l) y c = (closed_guard t.Entering l at x y, c)
closed alphabet at (Finishing x u) y c = (closed_guard t.Finishing (Prior (c.stamp + 1) u (right_value p.Finish)) at x y, stamped c)

-- the walk of an operand behind a tree
abbrev pub joined_on : Alphabet → Place → Operand → Placed → Walk Placed
joined_on alphabet at o x c =
    let q = opened alphabet o.join at x c in
    let y = walk o.plain q.1 in
    closed alphabet at q.0 y.0 y.1

abbrev pub chained_on : Alphabet → Place → List Operand → Placed → Walk Placed
chained_on alphabet at [] x c = (x, c)
chained_on alphabet at (o ∷ os) x c = let y = joined_on alphabet at o x c in chained_on alphabet at os y.0 y.1

abbrev pub chained_behind : Alphabet → Place → Plain → List Operand → Walk Placed
chained_behind alphabet at q os c = let x = walk q c in chained_on alphabet at os x.0 x.1

-- the nodes of an operand with those of its join
abbrev pub join_nodes : Join → ℕ
join_nodes join.Union = 1
join_nodes join.Intersection = 1
join_nodes join.Difference = 1
join_nodes join.StrongDifference = 7
join_nodes join.Concatenation = 1
join_nodes join.LeftGuarded = 3
join_nodes join.EntryGuarded = 3
join_nodes join.FinishGuarded = 3

abbrev pub operand_nodes : List Operand → ℕ
operand_nodes [] = 0
operand_nodes (o ∷ os) = nodes o.plain + join_nodes o.join + operand_nodes os

-- the stamps that a repetition takes
abbrev pub repetition_stamps : Repetition → ℕ
repetition_stamps repetition.Star = 1
repetition_stamps repetition.LongestStar = 3
repetition_stamps repetition.Optional = 0
repetition_stamps repetition.Plus = 1
repetition_stamps (repetition.Count bounds) = cond (is_none bounds.most) 1 0

abbrev pub all_stamps : List Repetition → ℕ
all_stamps [] = 0
all_stamps (r ∷ rs) = repetition_stamps r + all_stamps rs

-- ---- items

abbrev pub character_made : Option (List Range) → Place → Placed
character_made None at = single n.Null at
character_made (Some ranges) at = single (n.Set ranges) at

abbrev pub item_made : Item → Place → Walk Placed
item_made i at c = cond i.starred (star (character_made i.ranges at) (c.stamp + 1) at, stamped c) (character_made i.ranges at, c)

abbrev pub items_behind : Place → List Item → Placed → Walk Placed
items_behind at [] x c = (x, c)
items_behind at (i ∷ is) x c = let y = item_made i at c in items_behind at is (paired p.Then x y.0 at) y.1

-- ---- patterns

abbrev pub patterns_of : rust_patterns.Patterns → PlacedPatterns
patterns_of x = record { patterns = map pattern_of x.patterns; places = x.places }

abbrev pub root_placed : rust_root.Rooted → PlacedRoot
root_placed x = record { root = root_of x.root; places = x.places }

-- the places of the patterns that are made
abbrev pub made_places : rust_patterns.Patterns → List Place
made_places x = map (λ (p : Made_pattern). p.place) x.patterns

abbrev pub pattern_places : List Pattern → List Place
pattern_places ps = map (λ (p : Pattern). p.place) ps

-- a pattern behind those before it
abbrev pub pattern_added : PlacedPatterns → PlainPattern → Placed → PlacedPatterns
pattern_added x q y = record { patterns = x.patterns ++ pattern_made q y.node ∷ []; places = x.places ++ y.places }

abbrev pub pattern_on : PlacedPatterns → PlainPattern → Walk PlacedPatterns
pattern_on x q c = let y = walk q.plain c in (pattern_added x q y.0, y.1)

abbrev pub patterns_on : PlacedPatterns → List PlainPattern → Walk PlacedPatterns
patterns_on x [] c = (x, c)
patterns_on x (q ∷ qs) c = let y = pattern_on x q c in patterns_on y.0 qs y.1
