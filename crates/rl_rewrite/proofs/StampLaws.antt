-- The stamps of a walk are new numbers, and each has a node.
use Rattle.std.proofs.Common.{◌≡◌, ℕ, zero, suc, ◌+◌, ◌-◌, ◌≤◌, ◌<◌, ◌++◌, Bool, true, false, cond, List, [], ◌∷◌, Option, Some, None, replicate, length, refl, sym, subst, arith}
use Rattle.std.specs.Prelude.{All}
use Rattle.std.proofs.lemmas.List.Elements.{All-nil, All-cons, All-append, All-weaker}
use Rattle.std.specs.Prelude.{pos, is_none}
use Rattle.rl_types.specs.KeyRange.{Range}
use Rattle.rl_automata.specs.declared.tree.Label.TheVariants.{Prior}
use Rattle.rl_rewrite.proofs.RepeatLaws.{count_more}
use Rattle.rl_types.specs.declared.numbers.Place.{Place}
use Rattle.rl_draft.specs.declared.expression.Put.{Put}
use Rattle.rl_draft.specs.declared.expression.Put.TheVariants as put
use Rattle.rl_draft.specs.declared.expression.Transitions.TheVariants as t
use Rattle.rl_automata.specs.Nodes as n
use Rattle.rl_automata.specs.Nodes.{Node}
use Rattle.rl_model.specs.Counts.{stamps_in, label_stamp}
use Rattle.rl_rewrite.specs.declared.counts.Counts.{Counts}
use Rattle.rl_rewrite.specs.declared.layers.Layer.{Layer}
use Rattle.rl_rewrite.specs.declared.layers.Layer.TheVariants as layer
use Rattle.rl_rewrite.specs.Plain as p
use Rattle.rl_rewrite.specs.Plain.{Plain, Pairing, Guard}
use Rattle.rl_rewrite.specs.Walk.{Placed, Walk, walk, around, first_layers, layer_of, is_first, layer_node, layered, counted, has_copies, paired, pair_node, row, row_behind, star, optional, single, guarded_right, guarded_left, left_value, right_value, entered, new_name, with_new_name, stamped}
use Rattle.rl_rewrite.specs.Sizes.{nodes, count_nodes}

-- it is above the one and up to the other
abbrev IsWithin : ℕ → ℕ → ℕ → Type 0
IsWithin low high s = (low < s) × (s ≤ high)

AreWithin : ℕ → ℕ → Node → Type 0
AreWithin low high x = All (IsWithin low high) (stamps_in x)

wider : (low low' high high' : ℕ) (x : Node) → low' ≤ low → high ≤ high' → AreWithin low high x → AreWithin low' high' x
unfolding AreWithin
wider low low' high high' x h g all = All-weaker (IsWithin low high) (IsWithin low' high') (λ s e. (omega (arith, e.0), omega (arith, e.1))) (stamps_in x) all

pair_within : (q : Pairing) (low high : ℕ) (x y : Node) → AreWithin low high x → AreWithin low high y → AreWithin low high (pair_node q x y)
unfolding AreWithin
pair_within p.Either low high x y h g = All-append (IsWithin low high) (stamps_in x) (stamps_in y) h g
pair_within p.Both low high x y h g = All-append (IsWithin low high) (stamps_in x) (stamps_in y) h g
pair_within p.Less low high x y h g = All-append (IsWithin low high) (stamps_in x) (stamps_in y) h g
pair_within p.Then low high x y h g = All-append (IsWithin low high) (stamps_in x) (stamps_in y) h g

star_within : (low high : ℕ) (x : Node) (base : ℕ) → IsWithin low high base → AreWithin low high x → AreWithin low high (n.Star x base)
unfolding AreWithin
star_within low high x base h g = All-cons (IsWithin low high) base (stamps_in x) h g

abbrev layer_stamps : Layer → List ℕ
layer_stamps (layer.Step t l) = label_stamp l ∷ []
layer_stamps (layer.State class kind stamp action) = stamp ∷ []
layer_stamps (layer.When condition) = []

abbrev IsLayerWithin : ℕ → ℕ → Layer → Type 0
IsLayerWithin low high l = All (IsWithin low high) (layer_stamps l)

layer_within : (l : Layer) (low high : ℕ) (x : Node) → IsLayerWithin low high l → AreWithin low high x → AreWithin low high (layer_node l x)
unfolding AreWithin
layer_within (layer.Step t.Entering l) low high x h g = All-append (IsWithin low high) (label_stamp l ∷ []) (stamps_in x) h g
layer_within (layer.Step t.Finishing l) low high x h g = All-append (IsWithin low high) (label_stamp l ∷ []) (stamps_in x) h g
layer_within (layer.Step t.All l) low high x h g = All-append (IsWithin low high) (label_stamp l ∷ []) (stamps_in x) h g
layer_within (layer.Step t.Leaving l) low high x h g = All-append (IsWithin low high) (label_stamp l ∷ []) (stamps_in x) h g
layer_within (layer.State class kind stamp action) low high x h g = All-append (IsWithin low high) (stamp ∷ []) (stamps_in x) h g
layer_within (layer.When condition) low high x h g = g

one_within : (low high s : ℕ) → low < s → s ≤ high → All (IsWithin low high) (s ∷ [])
one_within low high s h g = All-cons (IsWithin low high) s [] (h, g) (All-nil (IsWithin low high))

-- ---- rows

AllWithin : ℕ → ℕ → List Placed → Type 0
AllWithin low high [] = Unit {0}
AllWithin low high (x ∷ xs) = AreWithin low high x.node × AllWithin low high xs

behind_within : (low high : ℕ) (x : Placed) (xs : List Placed) (at : Place) → AreWithin low high x.node → AllWithin low high xs → AreWithin low high (row_behind x xs at).node
unfolding AllWithin
behind_within low high x [] at h hs = h
behind_within low high x (y ∷ ys) at h hs = behind_within low high (paired p.Then x y at) ys at (pair_within p.Then low high x.node y.node h hs.0) hs.1

row_within : (low high : ℕ) (xs : List Placed) (at : Place) → AllWithin low high xs → AreWithin low high (row xs at).node
unfolding AllWithin AreWithin
row_within low high [] at hs = All-nil (IsWithin low high)
row_within low high (x ∷ xs) at hs = behind_within low high x xs at hs.0 hs.1

both_within : (low high : ℕ) (xs ys : List Placed) → AllWithin low high xs → AllWithin low high ys → AllWithin low high (xs ++ ys)
unfolding AllWithin
both_within low high [] ys hs gs = gs
both_within low high (x ∷ xs) ys hs gs = (hs.0, both_within low high xs ys hs.1 gs)

copies_within : (low high k : ℕ) (x : Placed) → AreWithin low high x.node → AllWithin low high (replicate k x)
unfolding AllWithin
copies_within low high zero x h = tt
copies_within low high (suc k) x h = (h, copies_within low high k x h)

null_within : (low high : ℕ) → AreWithin low high n.Null
unfolding AreWithin
null_within low high = All-nil (IsWithin low high)

-- ---- what a walk does: it raises the stamp by no more than so much, and its stamps are new

record IsFresh (low k : ℕ) (c : Counts) (x : Placed × Counts) : Type 0 where
  rises : c.stamp ≤ x.1.stamp
  few : x.1.stamp ≤ c.stamp + k
  within : AreWithin low x.1.stamp x.0.node

counted_fresh : (least : ℕ) (most : Option ℕ) (at : Place) (x : Placed) (low : ℕ) (c : Counts) → low ≤ c.stamp → AreWithin low c.stamp x.node
    → IsFresh low (cond (is_none most) 1 0) c (counted least most at x c)
unfolding AllWithin
counted_fresh least (Some most) at x low c h g = record {
  rises = omega arith;
  few = omega arith;
  within = row_within low c.stamp (replicate least x ++ replicate (most - least) (optional x at)) at
      (both_within low c.stamp (replicate least x) (replicate (most - least) (optional x at)) (copies_within low c.stamp least x g)
      (copies_within low c.stamp (most - least) (optional x at) (pair_within p.Either low c.stamp x.node n.Null g (null_within low c.stamp))));
}
counted_fresh least None at x low c h g =
    let w = wider low low c.stamp (c.stamp + 1) x.node (omega arith) (omega arith) g in
    record {
      rises = omega arith;
      few = omega arith;
      within = row_within low (c.stamp + 1) (replicate least x ++ star x (c.stamp + 1) at ∷ []) at
          (both_within low (c.stamp + 1) (replicate least x) (star x (c.stamp + 1) at ∷ []) (copies_within low (c.stamp + 1) least x w)
          (star_within low (c.stamp + 1) x.node (c.stamp + 1) (omega (arith, h), omega arith) w, tt));
    }

-- ---- series

-- how many layers are still to come
abbrev waiting : List (Option Layer) → ℕ
waiting [] = 0
waiting (None ∷ ls) = waiting ls + 1
waiting (Some l ∷ ls) = waiting ls

AreLayersWithin : ℕ → ℕ → List (Option Layer) → Type 0
AreLayersWithin low high [] = Unit {0}
AreLayersWithin low high (None ∷ ls) = AreLayersWithin low high ls
AreLayersWithin low high (Some l ∷ ls) = IsLayerWithin low high l × AreLayersWithin low high ls

layer_wider : (low low' high high' : ℕ) (l : Layer) → low' ≤ low → high ≤ high' → IsLayerWithin low high l → IsLayerWithin low' high' l
layer_wider low low' high high' l h g all = All-weaker (IsWithin low high) (IsWithin low' high') (λ s e. (omega (arith, e.0), omega (arith, e.1))) (layer_stamps l) all

layers_wider : (low low' high high' : ℕ) (ls : List (Option Layer)) → low' ≤ low → high ≤ high' → AreLayersWithin low high ls → AreLayersWithin low' high' ls
unfolding AreLayersWithin
layers_wider low low' high high' [] h g all = tt
layers_wider low low' high high' (None ∷ ls) h g all = layers_wider low low' high high' ls h g all
layers_wider low low' high high' (Some l ∷ ls) h g all = (layer_wider low low' high high' l h g all.0, layers_wider low low' high high' ls h g all.1)

record IsLayerFresh (c : Counts) (y : Layer × Counts) : Type 0 where
  rises : c.stamp ≤ y.1.stamp
  few : y.1.stamp ≤ c.stamp + 1
  within : IsLayerWithin c.stamp y.1.stamp y.0

layer_fresh : (q : Put) (c : Counts) → IsLayerFresh c (layer_of q c)
layer_fresh (put.Action t x) c = record { rises = omega arith; few = omega arith; within = one_within c.stamp (c.stamp + 1) (c.stamp + 1) (omega arith) (omega arith) }
layer_fresh (put.Priority t x v) c = record { rises = omega arith; few = omega arith; within = one_within c.stamp (c.stamp + 1) (c.stamp + 1) (omega arith) (omega arith) }
layer_fresh (put.Mark class kind x) c = record { rises = omega arith; few = omega arith; within = one_within c.stamp (c.stamp + 1) (c.stamp + 1) (omega arith) (omega arith) }
layer_fresh (put.When x) c = record { rises = omega arith; few = omega arith; within = All-nil (IsWithin c.stamp c.stamp) }

record AreFirst (c : Counts) (k : ℕ) (r : List (Option Layer) × Counts) : Type 0 where
  rises : c.stamp ≤ r.1.stamp
  few : r.1.stamp + waiting r.0 ≤ c.stamp + k
  within : AreLayersWithin c.stamp r.1.stamp r.0

first_case : (b : Bool) (y : Layer × Counts) (ps : List Put) (c : Counts) → IsLayerFresh c y → ((d : Counts) → AreFirst d (length ps) (first_layers ps d))
    → AreFirst c (suc (length ps)) (cond {A = List (Option Layer) × Counts} b (Some y.0 ∷ (first_layers ps y.1).0, (first_layers ps y.1).1) (None ∷ (first_layers ps c).0, (first_layers ps c).1))
unfolding AreLayersWithin
first_case true y ps c h f =
    let r = f y.1 in
    record {
      rises = omega (arith, h.rises, r.rises);
      few = omega (arith, h.few, r.few);
      within = (
        layer_wider c.stamp c.stamp y.1.stamp (first_layers ps y.1).1.stamp y.0 (omega arith) r.rises h.within,
        layers_wider y.1.stamp c.stamp (first_layers ps y.1).1.stamp (first_layers ps y.1).1.stamp (first_layers ps y.1).0 h.rises (omega arith) r.within,
      );
    }
first_case false y ps c h f = let r = f c in record { rises = r.rises; few = omega (arith, r.few); within = r.within }

first_fresh : (ps : List Put) (c : Counts) → AreFirst c (length ps) (first_layers ps c)
unfolding AreLayersWithin
first_fresh [] c = record { rises = omega arith; few = omega arith; within = tt }
first_fresh (q ∷ ps) c = first_case (is_first q) (layer_of q c) ps c (layer_fresh q c) (first_fresh ps)

around_fresh : (ps : List Put) (ls : List (Option Layer)) (at : Place) (x : Placed) (low : ℕ) (c : Counts) → low ≤ c.stamp → AreWithin low c.stamp x.node → AreLayersWithin low c.stamp ls
    → IsFresh low (waiting ls) c (around ps ls at x c)
unfolding AreLayersWithin
around_fresh [] ls at x low c h g k = record { rises = omega arith; few = omega arith; within = g }
around_fresh (q ∷ ps) [] at x low c h g k = record { rises = omega arith; few = omega arith; within = g }
around_fresh (q ∷ ps) (None ∷ ls) at x low c h g k =
    let y = layer_of q c in
    let f = layer_fresh q c in
    let r = around_fresh ps ls at (layered y.0 x at) low y.1 (omega (arith, h, f.rises))
    (layer_within y.0 low y.1.stamp x.node (layer_wider c.stamp low y.1.stamp y.1.stamp y.0 h (omega arith) f.within) (wider low low c.stamp y.1.stamp x.node (omega arith) f.rises g))
    (layers_wider low low c.stamp y.1.stamp ls (omega arith) f.rises k) in
    record { rises = omega (arith, f.rises, r.rises); few = omega (arith, f.few, r.few); within = r.within }
around_fresh (q ∷ ps) (Some l ∷ ls) at x low c h g k =
    around_fresh ps ls at (layered l x at) low c h (layer_within l low c.stamp x.node k.0 g) k.1

-- ---- guards

entered_fresh : (g : Guard) (u : ℕ) (at : Place) (w : Walk Placed) (c : Counts) (k : ℕ) → ((d : Counts) → IsFresh d.stamp k d (w d)) → IsFresh c.stamp (k + 1) c (entered g u at w c)
entered_fresh g u at w c k f =
    let y = w (stamped c) in
    let r = f (stamped c) in
    record {
      rises = omega (arith, r.rises);
      few = omega (arith, r.few);
      within = layer_within (layer.Step t.Entering (Prior (c.stamp + 1) u (right_value g))) c.stamp y.1.stamp y.0.node (one_within c.stamp y.1.stamp (c.stamp + 1) (omega arith) r.rises)
          (wider (c.stamp + 1) c.stamp y.1.stamp y.1.stamp y.0.node (omega arith) (omega arith) r.within);
    }

right_fresh : (g : Guard) (u : ℕ) (at : Place) (w : Walk Placed) (c : Counts) (k : ℕ) → ((d : Counts) → IsFresh d.stamp k d (w d)) → IsFresh c.stamp (k + 1) c (guarded_right g u at w c)
right_fresh p.Left u at w c k f = entered_fresh p.Left u at w c k f
right_fresh p.Entry u at w c k f = entered_fresh p.Entry u at w c k f
right_fresh p.Finish u at w c k f =
    let y = w c in
    let r = f c in
    record {
      rises = omega (arith, r.rises);
      few = omega (arith, r.few);
      within = layer_within (layer.Step t.Finishing (Prior (y.1.stamp + 1) u (right_value p.Finish))) c.stamp (y.1.stamp + 1) y.0.node (one_within c.stamp (y.1.stamp + 1) (y.1.stamp + 1) (omega (arith, r.rises)) (omega arith))
          (wider c.stamp c.stamp y.1.stamp (y.1.stamp + 1) y.0.node (omega arith) (omega arith) r.within);
    }

count_fresh : (b : Bool) (least : ℕ) (most : Option ℕ) (at : Place) (x : Placed × Counts) (c : Counts) (k : ℕ) → has_copies least most ≡ b → IsFresh c.stamp k c x
    → IsFresh c.stamp (cond b (count_nodes least most k) 1) c (cond {A = Placed × Counts} b (counted least most at x.0 x.1) (single n.Null at, c))
count_fresh true least most at x c k e h =
    let r = counted_fresh least most at x.0 c.stamp x.1 h.rises h.within in
    record { rises = omega (arith, h.rises, r.rises); few = omega (arith, h.few, r.few, count_more least most k e); within = r.within }
count_fresh false least most at x c k e h = record { rises = omega arith; few = omega arith; within = null_within c.stamp c.stamp }

pair_fresh : (q : Pairing) (k m : ℕ) (c : Counts) (x y : Placed × Counts) (at : Place) → IsFresh c.stamp k c x → IsFresh x.1.stamp m x.1 y
    → IsFresh c.stamp (k + m + 1) c (paired q x.0 y.0 at, y.1)
pair_fresh q k m c x y at h g = record {
  rises = omega (arith, h.rises, g.rises);
  few = omega (arith, h.few, g.few);
  within = pair_within q c.stamp y.1.stamp x.0.node y.0.node (wider c.stamp c.stamp x.1.stamp y.1.stamp x.0.node (omega arith) g.rises h.within)
      (wider x.1.stamp c.stamp y.1.stamp y.1.stamp y.0.node h.rises (omega arith) g.within);
}

-- a tree with a label more
label_fresh : (l : Layer) (k : ℕ) (c d : Counts) (x : Placed × Counts) (at : Place) → d.stamp ≡ x.1.stamp + 1 → All (IsWithin c.stamp (x.1.stamp + 1)) (layer_stamps l) → IsFresh c.stamp k c x
    → IsFresh c.stamp (k + 1) c (layered l x.0 at, d)
label_fresh l k c d x at e a h = record {
  rises = omega (arith, h.rises, e);
  few = omega (arith, h.few, e);
  within = subst (λ z. AreWithin c.stamp z (layer_node l x.0.node)) (sym e)
      (layer_within l c.stamp (x.1.stamp + 1) x.0.node a (wider c.stamp c.stamp x.1.stamp (x.1.stamp + 1) x.0.node (omega arith) (omega arith) h.within));
}

star_fresh : (k : ℕ) (c d : Counts) (x : Placed × Counts) (at : Place) → d.stamp ≡ x.1.stamp + 1 → IsFresh c.stamp k c x → IsFresh c.stamp (k + 1) c (star x.0 (x.1.stamp + 1) at, d)
star_fresh k c d x at e h = record {
  rises = omega (arith, h.rises, e);
  few = omega (arith, h.few, e);
  within = subst (λ z. AreWithin c.stamp z (n.Star x.0.node (x.1.stamp + 1))) (sym e)
      (star_within c.stamp (x.1.stamp + 1) x.0.node (x.1.stamp + 1) (omega (arith, h.rises), omega arith) (wider c.stamp c.stamp x.1.stamp (x.1.stamp + 1) x.0.node (omega arith) (omega arith) h.within));
}

nothing_fresh : (k : ℕ) (c : Counts) (x : Placed) → AreWithin c.stamp c.stamp x.node → IsFresh c.stamp k c (x, c)
nothing_fresh k c x h = record { rises = omega arith; few = omega arith; within = h }

set_within : (low high : ℕ) (ranges : List Range) → AreWithin low high (n.Set ranges)
unfolding AreWithin
set_within low high ranges = All-nil (IsWithin low high)

nothing_within : (low high : ℕ) → AreWithin low high n.Nothing
unfolding AreWithin
nothing_within low high = All-nil (IsWithin low high)

walk_fresh : (q : Plain) (c : Counts) → IsFresh c.stamp (nodes q) c (walk q c)
walk_fresh (p.Set ranges at) c = nothing_fresh 1 c (single (n.Set ranges) at) (set_within c.stamp c.stamp ranges)
walk_fresh (p.Null at) c = nothing_fresh 1 c (single n.Null at) (null_within c.stamp c.stamp)
walk_fresh (p.Nothing at) c = nothing_fresh 1 c (single n.Nothing at) (nothing_within c.stamp c.stamp)
walk_fresh (p.Pair q a b at) c = pair_fresh q (nodes a) (nodes b) c (walk a c) (walk b (walk a c).1) at (walk_fresh a c) (walk_fresh b (walk a c).1)
walk_fresh (p.Guarded g a b at) c =
    let x = walk a c in
    let h = walk_fresh a c in
    let l = guarded_left g (new_name x.1) at x.0 (with_new_name x.1) in
    let left = label_fresh (layer.Step t.All (Prior (x.1.stamp + 1) (new_name x.1) (left_value g))) (nodes a) c l.1 x at refl
    (one_within c.stamp (x.1.stamp + 1) (x.1.stamp + 1) (omega (arith, h.rises)) (omega arith)) h in
    let y = guarded_right g (new_name x.1) at (walk b) l.1 in
    let r = pair_fresh p.Then (nodes a + 1) (nodes b + 1) c l y at left (right_fresh g (new_name x.1) at (walk b) l.1 (nodes b) (walk_fresh b)) in
    record { rises = r.rises; few = omega (arith, r.few); within = r.within }
walk_fresh (p.Longest a at) c =
    let x = walk a c in
    let h = walk_fresh a c in
    let u = new_name x.1 in
    let c1 = stamped (with_new_name x.1) in
    let l1 = layer.Step t.All (Prior (x.1.stamp + 1) u (pos 1)) in
    let l2 = layer.Step t.Leaving (Prior (x.1.stamp + 2) u (pos 0)) in
    let x1 = layered l1 x.0 at in
    let h1 = label_fresh l1 (nodes a) c c1 x at refl (one_within c.stamp (x.1.stamp + 1) (x.1.stamp + 1) (omega (arith, h.rises)) (omega arith)) h in
    let h2 = label_fresh l2 (nodes a + 1) c (stamped c1) (x1, c1) at refl
    (one_within c.stamp (x.1.stamp + 1 + 1) (x.1.stamp + 2) (omega (arith, h.rises)) (omega arith)) h1 in
    let x2 = layered l2 x1 at in
    let e : x.1.stamp + 3 ≡ x.1.stamp + 1 + 1 + 1 = omega arith in
    let h3 = star_fresh (nodes a + 1 + 1) c (stamped (stamped c1)) (x2, stamped c1) at refl h2 in
    record { rises = omega (arith, h3.rises); few = omega (arith, h3.few); within = subst (λ z. AreWithin c.stamp (x.1.stamp + 1 + 1 + 1) (n.Star x2.node z)) (sym e) h3.within }
walk_fresh (p.Count a least most at) c = count_fresh (has_copies least most) least most at (walk a c) c (nodes a) refl (walk_fresh a c)
walk_fresh (p.Series a ps at) c =
    let l = first_layers ps c in
    let f = first_fresh ps c in
    let x = walk a l.1 in
    let h = walk_fresh a l.1 in
    let r = around_fresh ps l.0 at x.0 c.stamp x.1 (omega (arith, f.rises, h.rises))
    (wider l.1.stamp c.stamp x.1.stamp x.1.stamp x.0.node f.rises (omega arith) h.within)
    (layers_wider c.stamp c.stamp l.1.stamp x.1.stamp l.0 (omega arith) h.rises f.within) in
    record { rises = omega (arith, f.rises, h.rises, r.rises); few = omega (arith, f.few, h.few, r.few); within = r.within }

-- a walk takes no more stamps than its nodes
pub walk_rises : (q : Plain) (c : Counts) → (c.stamp ≤ (walk q c).1.stamp) × ((walk q c).1.stamp ≤ c.stamp + nodes q)
walk_rises q c = let h = walk_fresh q c in (h.rises, h.few)

-- the stamps of a walk are those that it takes
pub walk_within : (q : Plain) (c : Counts) → All (λ s. (c.stamp < s) × (s ≤ (walk q c).1.stamp)) (stamps_in (walk q c).0.node)
unfolding AreWithin
walk_within q c = (walk_fresh q c).within

-- the stamps of a walk from nothing are numbers from 1 up to its nodes
pub walk_stamps : (q : Plain) (c : Counts) → c.stamp ≡ 0 → All (λ s. (1 ≤ s) × (s ≤ nodes q)) (stamps_in (walk q c).0.node)
unfolding AreWithin
walk_stamps q c e =
    let h = walk_fresh q c in
    All-weaker (IsWithin c.stamp (walk q c).1.stamp) (λ s. (1 ≤ s) × (s ≤ nodes q)) (λ s k. (omega (arith, e, k.0), omega (arith, e, k.1, h.few))) (stamps_in (walk q c).0.node) h.within
