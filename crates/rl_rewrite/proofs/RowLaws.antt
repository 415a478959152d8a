-- The walk over rows.
use Rattle.std.proofs.Common.{◌≡◌, ◌+◌, ◌≤◌, Bool, true, false, cond, Option, Some, None, List, [], ◌∷◌, length, refl, ap, ◌∙◌, arith}
use Rattle.rl_types.specs.declared.numbers.Place.{Place}
use Rattle.rl_types.specs.KeyRange.{Range}
use Rattle.rl_draft.specs.declared.expression.Item.{Item}
use Rattle.rl_rewrite.specs.declared.counts.Counts.{Counts}
use Rattle.rl_rewrite.specs.Plain.{Plain, Pair, Then, item, character, starred, behind, row}
use Rattle.rl_rewrite.specs.Walk.{Placed, walk, paired, star, stamped}
use Rattle.rl_rewrite.specs.Sizes.{nodes}
use Rattle.rl_rewrite.specs.Steps.{character_made, item_made, items_behind}

item_case : (b : Bool) (r : Option (List Range)) (at : Place) (c : Counts)
    → walk (cond b (starred (character r at) at) (character r at)) c ≡ cond {A = Placed × Counts} b (star (character_made r at) (c.stamp + 1) at, stamped c) (character_made r at, c)
item_case true None at c = refl
item_case true (Some r) at c = refl
item_case false None at c = refl
item_case false (Some r) at c = refl

walk_item : (i : Item) (at : Place) (c : Counts) → walk (item i at) c ≡ item_made i at c
walk_item i at c = item_case i.starred i.ranges at c

walk_behind : (p : Plain) (is : List Item) (at : Place) (c : Counts) → walk (behind p is at) c ≡ items_behind at is (walk p c).0 (walk p c).1
walk_behind p [] at c = refl
walk_behind p (i ∷ is) at c = walk_behind (Pair Then p (item i at) at) is at c
    ∙ ap (λ z. items_behind at is (paired Then (walk p c).0 z.0 at) z.1) (walk_item i at (walk p c).1)

pub walk_row_is : (i : Item) (is : List Item) (at : Place) (c : Counts) → walk (row (i ∷ is) at) c ≡ items_behind at is (item_made i at c).0 (item_made i at c).1
walk_row_is i is at c = walk_behind (item i at) is at c ∙ ap (λ z. items_behind at is z.0 z.1) (walk_item i at c)

item_nodes : (b : Bool) (r : Option (List Range)) (at : Place) → 1 ≤ nodes (cond b (starred (character r at) at) (character r at))
item_nodes true None at = omega arith
item_nodes true (Some r) at = omega arith
item_nodes false None at = omega arith
item_nodes false (Some r) at = omega arith

behind_nodes : (p : Plain) (is : List Item) (at : Place) → nodes p + length is ≤ nodes (behind p is at)
behind_nodes p [] at = omega arith
behind_nodes p (i ∷ is) at = omega (arith, behind_nodes (Pair Then p (item i at) at) is at)

pub row_items : (is : List Item) (at : Place) → length is ≤ nodes (row is at)
row_items [] at = omega arith
row_items (i ∷ is) at = omega (arith, behind_nodes (item i at) is at, item_nodes i.starred i.ranges at)
