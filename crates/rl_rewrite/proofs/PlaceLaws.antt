-- Each node has a place.
use Rattle.std.proofs.Common.{◌≡◌, ℕ, zero, suc, ◌+◌, ◌-◌, ◌++◌, Bool, true, false, cond, List, [], ◌∷◌, Option, Some, None, replicate, length, refl, arith}
use Rattle.rl_types.specs.declared.numbers.Place.{Place}
use Rattle.std.specs.Prelude.{pos}
use Rattle.rl_draft.specs.declared.expression.Put.{Put}
use Rattle.rl_draft.specs.declared.expression.Transitions.TheVariants as t
use Rattle.rl_automata.specs.declared.tree.Label.TheVariants.{Prior}
use Rattle.rl_rewrite.specs.declared.layers.Layer.TheVariants as layer
use Rattle.rl_automata.specs.Nodes as n
use Rattle.rl_model.specs.Counts.{size_of}
use Rattle.rl_rewrite.specs.declared.counts.Counts.{Counts}
use Rattle.rl_rewrite.specs.declared.layers.Layer.{Layer}
use Rattle.rl_rewrite.specs.Plain as p
use Rattle.rl_rewrite.specs.Plain.{Plain, Pairing, Guard}
use Rattle.rl_rewrite.specs.Walk.{Placed, Walk, walk, around, first_layers, layer_or, layered, counted, has_copies, paired, row, row_behind, star, optional, single, guarded_right, guarded_left, new_name, with_new_name, stamped, left_value, right_value}
use Rattle.rl_rewrite.proofs.SizeLaws.{layer_count, pair_count}

-- it has as many places as nodes
abbrev IsWhole : Placed → Type 0
IsWhole x = length x.places ≡ size_of x.node

append_one : {X : Type 0} (xs : List X) (y : X) → length (xs ++ y ∷ []) ≡ length xs + 1
append_one [] y = refl
append_one (x ∷ xs) y = omega (arith, append_one xs y)

append_all : {X : Type 0} (xs ys : List X) → length (xs ++ ys) ≡ length xs + length ys
append_all [] ys = omega arith
append_all (x ∷ xs) ys = omega (arith, append_all xs ys)

paired_whole : (q : Pairing) (x y : Placed) (at : Place) → IsWhole x → IsWhole y → IsWhole (paired q x y at)
paired_whole q x y at h g = omega (arith, append_one (x.places ++ y.places) at, append_all x.places y.places, pair_count q x.node y.node)

star_whole : (x : Placed) (base : ℕ) (at : Place) → IsWhole x → IsWhole (star x base at)
star_whole x base at h = omega (arith, append_one x.places at)

layered_whole : (l : Layer) (x : Placed) (at : Place) → IsWhole x → IsWhole (layered l x at)
layered_whole l x at h = omega (arith, append_one x.places at, layer_count l x.node)

AllWhole : List Placed → Type 0
AllWhole [] = Unit {0}
AllWhole (x ∷ xs) = IsWhole x × AllWhole xs

behind_whole : (x : Placed) (xs : List Placed) (at : Place) → IsWhole x → AllWhole xs → IsWhole (row_behind x xs at)
unfolding AllWhole
behind_whole x [] at h hs = h
behind_whole x (y ∷ ys) at h hs = behind_whole (paired p.Then x y at) ys at (paired_whole p.Then x y at h hs.0) hs.1

row_whole : (xs : List Placed) (at : Place) → AllWhole xs → IsWhole (row xs at)
unfolding AllWhole
row_whole [] at hs = refl
row_whole (x ∷ xs) at hs = behind_whole x xs at hs.0 hs.1

both_whole : (xs ys : List Placed) → AllWhole xs → AllWhole ys → AllWhole (xs ++ ys)
unfolding AllWhole
both_whole [] ys hs gs = gs
both_whole (x ∷ xs) ys hs gs = (hs.0, both_whole xs ys hs.1 gs)

copies_whole : (k : ℕ) (x : Placed) → IsWhole x → AllWhole (replicate k x)
unfolding AllWhole
copies_whole zero x h = tt
copies_whole (suc k) x h = (h, copies_whole k x h)

counted_whole : (least : ℕ) (most : Option ℕ) (at : Place) (x : Placed) (c : Counts) → IsWhole x → IsWhole (counted least most at x c).0
unfolding AllWhole
counted_whole least (Some most) at x c h = row_whole (replicate least x ++ replicate (most - least) (optional x at)) at
    (both_whole (replicate least x) (replicate (most - least) (optional x at)) (copies_whole least x h)
    (copies_whole (most - least) (optional x at) (paired_whole p.Either x (single n.Null at) at h refl)))
counted_whole least None at x c h = row_whole (replicate least x ++ star x (c.stamp + 1) at ∷ []) at
    (both_whole (replicate least x) (star x (c.stamp + 1) at ∷ []) (copies_whole least x h) (star_whole x (c.stamp + 1) at h, tt))

count_whole : (b : Bool) (least : ℕ) (most : Option ℕ) (at : Place) (x : Placed × Counts) (c : Counts) → IsWhole x.0
    → IsWhole (cond {A = Placed × Counts} b (counted least most at x.0 x.1) (single n.Null at, c)).0
count_whole true least most at x c h = counted_whole least most at x.0 x.1 h
count_whole false least most at x c h = refl

around_whole : (ps : List Put) (ls : List (Option Layer)) (at : Place) (x : Placed) (c : Counts) → IsWhole x → IsWhole (around ps ls at x c).0
around_whole [] ls at x c h = h
around_whole (p ∷ ps) [] at x c h = h
around_whole (p ∷ ps) (l ∷ ls) at x c h = around_whole ps ls at (layered (layer_or l p c).0 x at) (layer_or l p c).1 (layered_whole (layer_or l p c).0 x at h)

right_whole : (g : Guard) (u : ℕ) (at : Place) (w : Walk Placed) (c : Counts) → ((d : Counts) → IsWhole (w d).0) → IsWhole (guarded_right g u at w c).0
right_whole p.Left u at w c f = layered_whole (layer.Step t.Entering (Prior (c.stamp + 1) u (right_value p.Left))) (w (stamped c)).0 at (f (stamped c))
right_whole p.Entry u at w c f = layered_whole (layer.Step t.Entering (Prior (c.stamp + 1) u (right_value p.Entry))) (w (stamped c)).0 at (f (stamped c))
right_whole p.Finish u at w c f = layered_whole (layer.Step t.Finishing (Prior ((w c).1.stamp + 1) u (right_value p.Finish))) (w c).0 at (f c)

pub walk_whole : (q : Plain) (c : Counts) → length (walk q c).0.places ≡ size_of (walk q c).0.node
walk_whole (p.Set ranges at) c = refl
walk_whole (p.Null at) c = refl
walk_whole (p.Nothing at) c = refl
walk_whole (p.Pair q a b at) c = paired_whole q (walk a c).0 (walk b (walk a c).1).0 at (walk_whole a c) (walk_whole b (walk a c).1)
walk_whole (p.Guarded g a b at) c =
    let x = walk a c in
    let l = guarded_left g (new_name x.1) at x.0 (with_new_name x.1) in
    paired_whole p.Then l.0 (guarded_right g (new_name x.1) at (walk b) l.1).0 at (layered_whole (layer.Step t.All (Prior (x.1.stamp + 1) (new_name x.1) (left_value g))) x.0 at (walk_whole a c)) (right_whole g (new_name x.1) at (walk b) l.1 (walk_whole b))
walk_whole (p.Longest a at) c =
    let x = walk a c in
    let u = new_name x.1 in
    let l1 = layer.Step t.All (Prior (x.1.stamp + 1) u (pos 1)) in
    let l2 = layer.Step t.Leaving (Prior (x.1.stamp + 2) u (pos 0)) in
    star_whole (layered l2 (layered l1 x.0 at) at) (x.1.stamp + 3) at (layered_whole l2 (layered l1 x.0 at) at (layered_whole l1 x.0 at (walk_whole a c)))
walk_whole (p.Count a least most at) c = count_whole (has_copies least most) least most at (walk a c) c (walk_whole a c)
walk_whole (p.Series a ps at) c = around_whole ps (first_layers ps c).0 at (walk a (first_layers ps c).1).0 (walk a (first_layers ps c).1).1 (walk_whole a (first_layers ps c).1)
