-- The nodes and the depth of the walk's tree are those that are told before it is made.
use Rattle.std.proofs.Common.{◌≡◌, ℕ, zero, suc, ◌+◌, ◌-◌, ◌*◌, ◌≤◌, max, ◌++◌, Bool, true, false, cond, List, [], ◌∷◌, Option, Some, None, replicate, length, refl, ap, sym, subst, ◌∙◌, arith}
use Rattle.rl_types.specs.declared.numbers.Place.{Place}
use Rattle.rl_draft.specs.declared.expression.Put.{Put}
use Rattle.rl_draft.specs.declared.expression.Transitions.TheVariants as t
use Rattle.rl_automata.specs.Nodes as n
use Rattle.rl_automata.specs.Nodes.{Node}
use Rattle.rl_model.specs.Counts.{size_of, depth_of}
use Rattle.rl_rewrite.specs.declared.counts.Counts.{Counts}
use Rattle.rl_rewrite.specs.declared.layers.Layer.{Layer}
use Rattle.rl_rewrite.specs.declared.layers.Layer.TheVariants as layer
use Rattle.rl_rewrite.specs.Plain as p
use Rattle.rl_rewrite.specs.Plain.{Plain, Pairing, Guard}
use Rattle.rl_rewrite.specs.Walk.{Placed, Walk, walk, around, first_layers, layer_of, layer_or, is_first, layer_node, layered, counted, has_copies, paired, pair_node, row, row_behind, star, optional, single, guarded_right, new_name, with_new_name, guarded_left}
use Rattle.rl_rewrite.specs.Sizes.{nodes, depth, count_nodes, count_depth, row_nodes, row_depth}

-- the nodes of all items of a row, each with the Cat in front of it
all_nodes : List Placed → ℕ
all_nodes [] = 0
all_nodes (x ∷ xs) = size_of x.node + 1 + all_nodes xs

behind_count : (x : Placed) (xs : List Placed) (at : Place) → size_of (row_behind x xs at).node ≡ size_of x.node + all_nodes xs
unfolding all_nodes
behind_count x [] at = omega arith
behind_count x (y ∷ ys) at = behind_count (paired p.Then x y at) ys at ∙ omega arith

all_nodes-append : (xs ys : List Placed) → all_nodes (xs ++ ys) ≡ all_nodes xs + all_nodes ys
unfolding all_nodes
all_nodes-append [] ys = omega arith
all_nodes-append (x ∷ xs) ys = ap (λ z. size_of x.node + 1 + z) (all_nodes-append xs ys) ∙ omega arith

all_nodes-replicate : (k : ℕ) (x : Placed) → all_nodes (replicate k x) ≡ k * (size_of x.node + 1)
unfolding all_nodes
all_nodes-replicate zero x = omega arith
all_nodes-replicate (suc k) x = ap (λ z. size_of x.node + 1 + z) (all_nodes-replicate k x) ∙ grind arith

pub layer_count : (l : Layer) (x : Node) → size_of (layer_node l x) ≡ size_of x + 1
layer_count (layer.Step t.Entering l) x = refl
layer_count (layer.Step t.Finishing l) x = refl
layer_count (layer.Step t.All l) x = refl
layer_count (layer.Step t.Leaving l) x = refl
layer_count (layer.State class kind stamp action) x = refl
layer_count (layer.When condition) x = refl

pub layer_depth : (l : Layer) (x : Node) → depth_of (layer_node l x) ≡ depth_of x + 1
layer_depth (layer.Step t.Entering l) x = refl
layer_depth (layer.Step t.Finishing l) x = refl
layer_depth (layer.Step t.All l) x = refl
layer_depth (layer.Step t.Leaving l) x = refl
layer_depth (layer.State class kind stamp action) x = refl
layer_depth (layer.When condition) x = refl

pub pair_count : (q : Pairing) (x y : Node) → size_of (pair_node q x y) ≡ size_of x + size_of y + 1
pair_count p.Either x y = refl
pair_count p.Both x y = refl
pair_count p.Less x y = refl
pair_count p.Then x y = refl

pair_depth : (q : Pairing) (x y : Node) → depth_of (pair_node q x y) ≡ max (depth_of x) (depth_of y) + 1
pair_depth p.Either x y = refl
pair_depth p.Both x y = refl
pair_depth p.Less x y = refl
pair_depth p.Then x y = refl

-- the deepest of a row's items, each as deep as it lies
deep : ℕ → List Placed → ℕ
deep d [] = d
deep d (x ∷ xs) = deep (max d (depth_of x.node) + 1) xs

behind_depth : (x : Placed) (xs : List Placed) (at : Place) → depth_of (row_behind x xs at).node ≡ deep (depth_of x.node) xs
unfolding deep
behind_depth x [] at = refl
behind_depth x (y ∷ ys) at = behind_depth (paired p.Then x y at) ys at

deep-append : (d : ℕ) (xs ys : List Placed) → deep d (xs ++ ys) ≡ deep (deep d xs) ys
unfolding deep
deep-append d [] ys = refl
deep-append d (x ∷ xs) ys = deep-append (max d (depth_of x.node) + 1) xs ys

-- copies of a tree that is no deeper than what is there make it one deeper each
deep-replicate : (k d : ℕ) (x : Placed) → depth_of x.node ≤ d → deep d (replicate k x) ≡ d + k
unfolding deep
deep-replicate zero d x h = omega arith
deep-replicate (suc k) d x h = let m : max d (depth_of x.node) + 1 ≡ d + 1 = omega arith in ap (λ z. deep z (replicate k x)) m ∙ deep-replicate k (d + 1) x (omega arith) ∙ omega arith

abbrev none : ℕ → ℕ → Bool
none zero zero = true
none zero (suc more) = false
none (suc few) more = false

row_count : (few more : ℕ) (x y : Placed) (at : Place) → size_of (row (replicate few x ++ replicate more y) at).node ≡ cond (none few more) 1 (row_nodes few (size_of x.node) more (size_of y.node))
unfolding all_nodes
row_count zero zero x y at = refl
row_count zero (suc more) x y at = behind_count y (replicate more y) at ∙ ap (λ z. size_of y.node + z) (all_nodes-replicate more y) ∙ grind arith
row_count (suc few) more x y at = behind_count x (replicate few x ++ replicate more y) at ∙ ap (λ z. size_of x.node + z) (all_nodes-append (replicate few x) (replicate more y))
    ∙ ap (λ z. size_of x.node + (z + all_nodes (replicate more y))) (all_nodes-replicate few x) ∙ ap (λ z. size_of x.node + (few * (size_of x.node + 1) + z)) (all_nodes-replicate more y) ∙ grind arith

first_one : (b : Bool) (x : Layer × Counts) (ps : List Put) (c : Counts) → ((d : Counts) → length (first_layers ps d).0 ≡ length ps)
    → length (cond {A = List (Option Layer) × Counts} b (Some x.0 ∷ (first_layers ps x.1).0, (first_layers ps x.1).1) (None ∷ (first_layers ps c).0, (first_layers ps c).1)).0 ≡ suc (length ps)
first_one true x ps c e = ap suc (e x.1)
first_one false x ps c e = ap suc (e c)

pub first_length : (ps : List Put) (c : Counts) → length (first_layers ps c).0 ≡ length ps
first_length [] c = refl
first_length (p ∷ ps) c = first_one (is_first p) (layer_of p c) ps c (first_length ps)

around_count : (ps : List Put) (ls : List (Option Layer)) (at : Place) (x : Placed) (c : Counts) → length ls ≡ length ps → size_of (around ps ls at x c).0.node ≡ size_of x.node + length ps
around_count [] ls at x c h = omega arith
around_count (p ∷ ps) [] at x c h = absurd (omega arith)
around_count (p ∷ ps) (l ∷ ls) at x c h = around_count ps ls at (layered (layer_or l p c).0 x at) (layer_or l p c).1 (omega arith)
    ∙ ap (λ z. z + length ps) (layer_count (layer_or l p c).0 x.node) ∙ omega arith

around_depth : (ps : List Put) (ls : List (Option Layer)) (at : Place) (x : Placed) (c : Counts) → length ls ≡ length ps → depth_of (around ps ls at x c).0.node ≡ depth_of x.node + length ps
around_depth [] ls at x c h = omega arith
around_depth (p ∷ ps) [] at x c h = absurd (omega arith)
around_depth (p ∷ ps) (l ∷ ls) at x c h = around_depth ps ls at (layered (layer_or l p c).0 x at) (layer_or l p c).1 (omega arith)
    ∙ ap (λ z. z + length ps) (layer_depth (layer_or l p c).0 x.node) ∙ omega arith

none_star : (least k : ℕ) → cond (none least 1) 1 (row_nodes least k 1 (k + 1)) ≡ row_nodes least k 1 (k + 1)
none_star zero k = refl
none_star (suc least) k = refl

counted_count : (least : ℕ) (most : Option ℕ) (at : Place) (x : Placed) (c : Counts) → has_copies least most ≡ true → size_of (counted least most at x c).0.node ≡ count_nodes least most (size_of x.node)
counted_count least None at x c h = row_count least 1 x (star x (c.stamp + 1) at) at ∙ none_star least (size_of x.node)
counted_count zero (Some zero) at x c h = cc
counted_count zero (Some (suc most)) at x c h =
    let m : suc most - 0 ≡ suc most = omega arith in
    let q : size_of x.node + 1 + 1 ≡ size_of x.node + 2 = omega arith in
    subst (λ z. size_of (row (replicate z (optional x at)) at).node ≡ row_nodes 0 (size_of x.node) z (size_of x.node + 2)) (sym m)
    (row_count zero (suc most) x (optional x at) at ∙ ap (λ z. row_nodes 0 (size_of x.node) (suc most) z) q)
counted_count (suc least) (Some most) at x c h =
    let q : size_of x.node + 1 + 1 ≡ size_of x.node + 2 = omega arith in
    row_count (suc least) (most - suc least) x (optional x at) at ∙ ap (λ z. row_nodes (suc least) (size_of x.node) (most - suc least) z) q

count_case : (b : Bool) (least : ℕ) (most : Option ℕ) (at : Place) (x : Placed × Counts) (c : Counts) (k : ℕ) → has_copies least most ≡ b → size_of x.0.node ≡ k
    → size_of (cond {A = Placed × Counts} b (counted least most at x.0 x.1) (single n.Null at, c)).0.node ≡ cond b (count_nodes least most k) 1
count_case true least most at x c k h e = counted_count least most at x.0 x.1 h ∙ ap (λ z. count_nodes least most z) e
count_case false least most at x c k h e = refl

right_count : (g : Guard) (u : ℕ) (at : Place) (w : Walk Placed) (c : Counts) (k : ℕ) → ((d : Counts) → size_of (w d).0.node ≡ k) → size_of (guarded_right g u at w c).0.node ≡ k + 1
right_count p.Left u at w c k f = ap (λ z. z + 1) (f _)
right_count p.Entry u at w c k f = ap (λ z. z + 1) (f _)
right_count p.Finish u at w c k f = ap (λ z. z + 1) (f _)

right_depth : (g : Guard) (u : ℕ) (at : Place) (w : Walk Placed) (c : Counts) (k : ℕ) → ((d : Counts) → depth_of (w d).0.node ≡ k) → depth_of (guarded_right g u at w c).0.node ≡ k + 1
right_depth p.Left u at w c k f = ap (λ z. z + 1) (f _)
right_depth p.Entry u at w c k f = ap (λ z. z + 1) (f _)
right_depth p.Finish u at w c k f = ap (λ z. z + 1) (f _)

pub walk_nodes : (q : Plain) (c : Counts) → size_of (walk q c).0.node ≡ nodes q
walk_nodes (p.Set ranges at) c = refl
walk_nodes (p.Null at) c = refl
walk_nodes (p.Nothing at) c = refl
walk_nodes (p.Pair q a b at) c = pair_count q (walk a c).0.node (walk b (walk a c).1).0.node ∙ omega (arith, walk_nodes a c, walk_nodes b (walk a c).1)
walk_nodes (p.Guarded g a b at) c =
    let x = walk a c in
    let l = guarded_left g (new_name x.1) at x.0 (with_new_name x.1) in
    omega (arith, walk_nodes a c, right_count g (new_name x.1) at (walk b) l.1 (nodes b) (walk_nodes b))
walk_nodes (p.Longest a at) c = omega (arith, walk_nodes a c)
walk_nodes (p.Count a least most at) c = count_case (has_copies least most) least most at (walk a c) c (nodes a) refl (walk_nodes a c)
walk_nodes (p.Series a ps at) c = around_count ps (first_layers ps c).0 at (walk a (first_layers ps c).1).0 (walk a (first_layers ps c).1).1 (first_length ps c) ∙ ap (λ z. z + length ps) (walk_nodes a (first_layers ps c).1)

row_deep : (few more : ℕ) (x y : Placed) (at : Place) → depth_of (row (replicate few x ++ replicate more y) at).node ≡ row_depth few (depth_of x.node) more (depth_of y.node)
unfolding deep
row_deep zero zero x y at = refl
row_deep zero (suc more) x y at = behind_depth y (replicate more y) at ∙ deep-replicate more (depth_of y.node) y (omega arith)
row_deep (suc few) zero x y at = behind_depth x (replicate few x ++ []) at ∙ deep-append (depth_of x.node) (replicate few x) [] ∙ deep-replicate few (depth_of x.node) x (omega arith)
row_deep (suc few) (suc more) x y at = behind_depth x (replicate few x ++ replicate (suc more) y) at ∙ deep-append (depth_of x.node) (replicate few x) (replicate (suc more) y)
    ∙ ap (λ z. deep (max z (depth_of y.node) + 1) (replicate more y)) (deep-replicate few (depth_of x.node) x (omega arith))
    ∙ deep-replicate more (max (depth_of x.node + few) (depth_of y.node) + 1) y (omega arith) ∙ omega arith

counted_depth : (least : ℕ) (most : Option ℕ) (at : Place) (x : Placed) (c : Counts) → depth_of (counted least most at x c).0.node ≡ count_depth least most (depth_of x.node)
counted_depth least None at x c = row_deep least 1 x (star x (c.stamp + 1) at) at
counted_depth least (Some most) at x c = row_deep least (most - least) x (optional x at) at

depth_case : (b : Bool) (least : ℕ) (most : Option ℕ) (at : Place) (x : Placed × Counts) (c : Counts) (k : ℕ) → depth_of x.0.node ≡ k
    → depth_of (cond {A = Placed × Counts} b (counted least most at x.0 x.1) (single n.Null at, c)).0.node ≡ cond b (count_depth least most k) 1
depth_case true least most at x c k e = counted_depth least most at x.0 x.1 ∙ ap (λ z. count_depth least most z) e
depth_case false least most at x c k e = refl

pub walk_depth : (q : Plain) (c : Counts) → depth_of (walk q c).0.node ≡ depth q
walk_depth (p.Set ranges at) c = refl
walk_depth (p.Null at) c = refl
walk_depth (p.Nothing at) c = refl
walk_depth (p.Pair q a b at) c = pair_depth q (walk a c).0.node (walk b (walk a c).1).0.node ∙ omega (arith, walk_depth a c, walk_depth b (walk a c).1)
walk_depth (p.Guarded g a b at) c =
    let x = walk a c in
    let l = guarded_left g (new_name x.1) at x.0 (with_new_name x.1) in
    omega (arith, walk_depth a c, right_depth g (new_name x.1) at (walk b) l.1 (depth b) (walk_depth b))
walk_depth (p.Longest a at) c = omega (arith, walk_depth a c)
walk_depth (p.Count a least most at) c = depth_case (has_copies least most) least most at (walk a c) c (depth a) (walk_depth a c)
walk_depth (p.Series a ps at) c = around_depth ps (first_layers ps c).0 at (walk a (first_layers ps c).1).0 (walk a (first_layers ps c).1).1 (first_length ps c) ∙ ap (λ z. z + length ps) (walk_depth a (first_layers ps c).1)
