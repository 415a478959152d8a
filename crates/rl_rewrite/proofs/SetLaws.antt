-- The sets of a walk's tree are those of the expression, and of any character.
use Rattle.std.proofs.Common.{ℕ, zero, suc, ◌+◌, ◌-◌, ◌++◌, Bool, true, false, cond, List, [], ◌∷◌, Option, Some, None, replicate}
use Rattle.std.specs.Prelude.{All, pos}
use Rattle.std.proofs.lemmas.List.Elements.{All-nil, All-cons, All-append}
use Rattle.rl_types.specs.declared.numbers.Place.{Place}
use Rattle.rl_types.specs.KeyRange.{Range}
use Rattle.rl_draft.specs.declared.expression.Put.{Put}
use Rattle.rl_draft.specs.declared.expression.Transitions.TheVariants as t
use Rattle.rl_automata.specs.declared.tree.Label.TheVariants.{Prior}
use Rattle.rl_automata.specs.Nodes as n
use Rattle.rl_automata.specs.Nodes.{Node}
use Rattle.rl_automata.specs.Refused.{sets_in}
use Rattle.rl_rewrite.specs.declared.counts.Counts.{Counts}
use Rattle.rl_rewrite.specs.declared.layers.Layer.{Layer}
use Rattle.rl_rewrite.specs.declared.layers.Layer.TheVariants as layer
use Rattle.rl_rewrite.specs.Plain as p
use Rattle.rl_rewrite.specs.Plain.{Plain, Pairing, Guard}
use Rattle.rl_rewrite.specs.Walk.{Placed, Walk, walk, around, first_layers, layer_or, layer_node, layered, counted, has_copies, paired, pair_node, row, row_behind, star, optional, single, guarded_right, guarded_left, new_name, with_new_name, stamped, left_value, right_value}

-- each set of the expression is such a set
abbrev pub AreSets : (List Range → Type 0) → Plain → Type 0
AreSets P (p.Set ranges at) = P ranges
AreSets P (p.Null at) = Unit {0}
AreSets P (p.Nothing at) = Unit {0}
AreSets P (p.Pair q a b at) = AreSets P a × AreSets P b
AreSets P (p.Guarded g a b at) = AreSets P a × AreSets P b
AreSets P (p.Longest a at) = AreSets P a
AreSets P (p.Count a least most at) = AreSets P a
AreSets P (p.Series a ps at) = AreSets P a

AreIn : (List Range → Type 0) → Node → Type 0
AreIn P x = All P (sets_in x)

AllIn : (List Range → Type 0) → List Placed → Type 0
AllIn P [] = Unit {0}
AllIn P (x ∷ xs) = AreIn P x.node × AllIn P xs

module _ (P : List Range → Type 0) where
  none_in : All P []
  none_in = All-nil P

  null_in : AreIn P n.Null
  unfolding AreIn
  null_in = none_in

  nothing_in : AreIn P n.Nothing
  unfolding AreIn
  nothing_in = none_in

  set_in : (ranges : List Range) → P ranges → AreIn P (n.Set ranges)
  unfolding AreIn
  set_in ranges h = All-cons P ranges [] h none_in

  pair_in : (q : Pairing) (x y : Node) → AreIn P x → AreIn P y → AreIn P (pair_node q x y)
  unfolding AreIn
  pair_in p.Either x y h g = All-append P (sets_in x) (sets_in y) h g
  pair_in p.Both x y h g = All-append P (sets_in x) (sets_in y) h g
  pair_in p.Less x y h g = All-append P (sets_in x) (sets_in y) h g
  pair_in p.Then x y h g = All-append P (sets_in x) (sets_in y) h g

  star_in : (x : Node) (base : ℕ) → AreIn P x → AreIn P (n.Star x base)
  unfolding AreIn
  star_in x base h = h

  layer_in : (l : Layer) (x : Node) → AreIn P x → AreIn P (layer_node l x)
  unfolding AreIn
  layer_in (layer.Step t.Entering l) x h = h
  layer_in (layer.Step t.Finishing l) x h = h
  layer_in (layer.Step t.All l) x h = h
  layer_in (layer.Step t.Leaving l) x h = h
  layer_in (layer.State class kind stamp action) x h = h
  layer_in (layer.When condition) x h = h

  behind_in : (x : Placed) (xs : List Placed) (at : Place) → AreIn P x.node → AllIn P xs → AreIn P (row_behind x xs at).node
  unfolding AllIn
  behind_in x [] at h hs = h
  behind_in x (y ∷ ys) at h hs = behind_in (paired p.Then x y at) ys at (pair_in p.Then x.node y.node h hs.0) hs.1

  row_in : (xs : List Placed) (at : Place) → AllIn P xs → AreIn P (row xs at).node
  unfolding AllIn
  row_in [] at hs = null_in
  row_in (x ∷ xs) at hs = behind_in x xs at hs.0 hs.1

  both_in : (xs ys : List Placed) → AllIn P xs → AllIn P ys → AllIn P (xs ++ ys)
  unfolding AllIn
  both_in [] ys hs gs = gs
  both_in (x ∷ xs) ys hs gs = (hs.0, both_in xs ys hs.1 gs)

  copies_in : (k : ℕ) (x : Placed) → AreIn P x.node → AllIn P (replicate k x)
  unfolding AllIn
  copies_in zero x h = tt
  copies_in (suc k) x h = (h, copies_in k x h)

  counted_in : (least : ℕ) (most : Option ℕ) (at : Place) (x : Placed) (c : Counts) → AreIn P x.node → AreIn P (counted least most at x c).0.node
  unfolding AllIn
  counted_in least (Some most) at x c h = row_in (replicate least x ++ replicate (most - least) (optional x at)) at
      (both_in (replicate least x) (replicate (most - least) (optional x at)) (copies_in least x h)
      (copies_in (most - least) (optional x at) (pair_in p.Either x.node n.Null h null_in)))
  counted_in least None at x c h = row_in (replicate least x ++ star x (c.stamp + 1) at ∷ []) at
      (both_in (replicate least x) (star x (c.stamp + 1) at ∷ []) (copies_in least x h) (star_in x.node (c.stamp + 1) h, tt))

  count_in : (b : Bool) (least : ℕ) (most : Option ℕ) (at : Place) (x : Placed × Counts) (c : Counts) → AreIn P x.0.node
      → AreIn P (cond {A = Placed × Counts} b (counted least most at x.0 x.1) (single n.Null at, c)).0.node
  count_in true least most at x c h = counted_in least most at x.0 x.1 h
  count_in false least most at x c h = null_in

  around_in : (ps : List Put) (ls : List (Option Layer)) (at : Place) (x : Placed) (c : Counts) → AreIn P x.node → AreIn P (around ps ls at x c).0.node
  around_in [] ls at x c h = h
  around_in (q ∷ ps) [] at x c h = h
  around_in (q ∷ ps) (l ∷ ls) at x c h = around_in ps ls at (layered (layer_or l q c).0 x at) (layer_or l q c).1 (layer_in (layer_or l q c).0 x.node h)

  right_in : (g : Guard) (u : ℕ) (at : Place) (w : Walk Placed) (c : Counts) → ((d : Counts) → AreIn P (w d).0.node) → AreIn P (guarded_right g u at w c).0.node
  right_in p.Left u at w c f = layer_in (layer.Step t.Entering (Prior (c.stamp + 1) u (right_value p.Left))) (w (stamped c)).0.node (f (stamped c))
  right_in p.Entry u at w c f = layer_in (layer.Step t.Entering (Prior (c.stamp + 1) u (right_value p.Entry))) (w (stamped c)).0.node (f (stamped c))
  right_in p.Finish u at w c f = layer_in (layer.Step t.Finishing (Prior ((w c).1.stamp + 1) u (right_value p.Finish))) (w c).0.node (f c)

  walk_in : (q : Plain) (c : Counts) → AreSets P q → AreIn P (walk q c).0.node
  walk_in (p.Set ranges at) c h = set_in ranges h
  walk_in (p.Null at) c h = null_in
  walk_in (p.Nothing at) c h = nothing_in
  walk_in (p.Pair q a b at) c h = pair_in q (walk a c).0.node (walk b (walk a c).1).0.node (walk_in a c h.0) (walk_in b (walk a c).1 h.1)
  walk_in (p.Guarded g a b at) c h =
      let x = walk a c in
      let l = guarded_left g (new_name x.1) at x.0 (with_new_name x.1) in
      pair_in p.Then l.0.node (guarded_right g (new_name x.1) at (walk b) l.1).0.node
      (layer_in (layer.Step t.All (Prior (x.1.stamp + 1) (new_name x.1) (left_value g))) x.0.node (walk_in a c h.0))
      (right_in g (new_name x.1) at (walk b) l.1 (λ d. walk_in b d h.1))
  walk_in (p.Longest a at) c h =
      let x = walk a c in
      let u = new_name x.1 in
      let l1 = layer.Step t.All (Prior (x.1.stamp + 1) u (pos 1)) in
      let l2 = layer.Step t.Leaving (Prior (x.1.stamp + 2) u (pos 0)) in
      star_in (layer_node l2 (layer_node l1 x.0.node)) (x.1.stamp + 3) (layer_in l2 (layer_node l1 x.0.node) (layer_in l1 x.0.node (walk_in a c h)))
  walk_in (p.Count a least most at) c h = count_in (has_copies least most) least most at (walk a c) c (walk_in a c h)
  walk_in (p.Series a ps at) c h = around_in ps (first_layers ps c).0 at (walk a (first_layers ps c).1).0 (walk a (first_layers ps c).1).1 (walk_in a (first_layers ps c).1 h)

pub walk_sets : (P : List Range → Type 0) (q : Plain) (c : Counts) → AreSets P q → All P (sets_in (walk q c).0.node)
unfolding AreIn
walk_sets P q c h = walk_in P q c h
