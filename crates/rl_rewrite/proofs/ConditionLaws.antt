-- The conditions of a walk's tree have numbers of the conditions that it gives, as long as there are no more than eight.
use Rattle.std.proofs.Common.{◌≡◌, ℕ, zero, suc, ◌+◌, ◌-◌, ◌≤◌, ◌++◌, Bool, true, false, cond, List, [], ◌∷◌, Option, Some, None, replicate, length, inl, inr, refl, arith}
use Rattle.std.specs.Prelude.{All, pos, ◌&&◌, ◌⊎◌, nat_eq, nat_lt, not}
use Rattle.std.proofs.lemmas.Bool.Decides.{nat_tests}
use Rattle.std.proofs.lemmas.List.Elements.{All-nil, All-cons, All-append, All-weaker}
use Rattle.rl_types.specs.declared.numbers.Place.{Place}
use Rattle.rl_types.specs.declared.numbers.ActionId.{ActionId}
use Rattle.rl_types.specs.KeyRange.{Range}
use Rattle.rl_draft.specs.declared.expression.Put.{Put}
use Rattle.rl_draft.specs.declared.expression.Put.TheVariants as put
use Rattle.rl_draft.specs.declared.expression.Transitions.TheVariants as t
use Rattle.rl_automata.specs.declared.tree.Label.TheVariants.{Prior}
use Rattle.rl_automata.specs.Nodes as n
use Rattle.rl_automata.specs.Nodes.{Node}
use Rattle.rl_automata.specs.Refused.{conditions_in}
use Rattle.rl_rewrite.specs.declared.counts.Counts.{Counts}
use Rattle.rl_rewrite.specs.declared.layers.Layer.{Layer}
use Rattle.rl_rewrite.specs.declared.layers.Layer.TheVariants as layer
use Rattle.rl_rewrite.specs.Plain as p
use Rattle.rl_rewrite.specs.Plain.{Plain, Pairing, Guard}
use Rattle.rl_rewrite.specs.Walk.{Placed, Walk, walk, around, first_layers, layer_of, is_first, layer_node, layered, counted, has_copies, paired, pair_node, row, row_behind, star, optional, single, guarded_right, guarded_left, new_name, with_new_name, stamped, left_value, right_value, conditions_before}

-- it is one of so many numbers, which count from 1, or there are too many
abbrev IsKnown : ℕ → ℕ → Type 0
IsKnown count k = (1 ≤ k) × ((k ≤ count) ⊎ (9 ≤ count))

AreKnown : ℕ → Node → Type 0
AreKnown count x = All (IsKnown count) (conditions_in x)

known_later : (m k s : ℕ) → m ≤ k → IsKnown m s → IsKnown k s
known_later m k s h (e, inl g) = (e, inl (omega arith))
known_later m k s h (e, inr g) = (e, inr (omega arith))

later : (m k : ℕ) (x : Node) → m ≤ k → AreKnown m x → AreKnown k x
unfolding AreKnown
later m k x h all = All-weaker (IsKnown m) (IsKnown k) (λ s e. known_later m k s h e) (conditions_in x) all

none_known : (m : ℕ) → All (IsKnown m) []
none_known m = All-nil (IsKnown m)

null_known : (m : ℕ) → AreKnown m n.Null
unfolding AreKnown
null_known m = none_known m

nothing_known : (m : ℕ) → AreKnown m n.Nothing
unfolding AreKnown
nothing_known m = none_known m

set_known : (m : ℕ) (ranges : List Range) → AreKnown m (n.Set ranges)
unfolding AreKnown
set_known m ranges = none_known m

pair_known : (q : Pairing) (m : ℕ) (x y : Node) → AreKnown m x → AreKnown m y → AreKnown m (pair_node q x y)
unfolding AreKnown
pair_known p.Either m x y h g = All-append (IsKnown m) (conditions_in x) (conditions_in y) h g
pair_known p.Both m x y h g = All-append (IsKnown m) (conditions_in x) (conditions_in y) h g
pair_known p.Less m x y h g = All-append (IsKnown m) (conditions_in x) (conditions_in y) h g
pair_known p.Then m x y h g = All-append (IsKnown m) (conditions_in x) (conditions_in y) h g

star_known : (m : ℕ) (x : Node) (base : ℕ) → AreKnown m x → AreKnown m (n.Star x base)
unfolding AreKnown
star_known m x base h = h

abbrev layer_conditions : Layer → List ℕ
layer_conditions (layer.Step t l) = []
layer_conditions (layer.State class kind stamp action) = []
layer_conditions (layer.When condition) = condition.0 ∷ []

abbrev IsLayerKnown : ℕ → Layer → Type 0
IsLayerKnown m l = All (IsKnown m) (layer_conditions l)

layer_known : (l : Layer) (m : ℕ) (x : Node) → IsLayerKnown m l → AreKnown m x → AreKnown m (layer_node l x)
unfolding AreKnown
layer_known (layer.Step t.Entering l) m x h g = g
layer_known (layer.Step t.Finishing l) m x h g = g
layer_known (layer.Step t.All l) m x h g = g
layer_known (layer.Step t.Leaving l) m x h g = g
layer_known (layer.State class kind stamp action) m x h g = g
layer_known (layer.When condition) m x h g = All-append (IsKnown m) (condition.0 ∷ []) (conditions_in x) h g

layer_later : (m k : ℕ) (l : Layer) → m ≤ k → IsLayerKnown m l → IsLayerKnown k l
layer_later m k l h all = All-weaker (IsKnown m) (IsKnown k) (λ s e. known_later m k s h e) (layer_conditions l) all

-- ---- the number of a condition

before_case : (b : Bool) (k m : ℕ) → k ≤ m → cond (not b) (1 + k) 0 ≤ suc m
before_case true k m h = omega arith
before_case false k m h = omega arith

before_within : (x : ActionId) (cs : List ActionId) → conditions_before x cs ≤ length cs
before_within x [] = omega arith
before_within x (c ∷ cs) = before_case (nat_eq c.0 x.0) (conditions_before x cs) (length cs) (before_within x cs)

longer : (cs : List ActionId) (x : ActionId) → length (cs ++ x ∷ []) ≡ length cs + 1
longer [] x = omega arith
longer (c ∷ cs) x = omega (arith, longer cs x)

equal_tests : (a b : ℕ) → nat_eq a b ≡ true → a ≡ b
equal_tests a b e = grind (arith, nat_tests)

other_tests : (a b : ℕ) → nat_eq a b ≡ false → a ≤ b → a + 1 ≤ b
other_tests a b e h = grind (arith, nat_tests)

not_below : (a : ℕ) → nat_lt a 9 ≡ false → 9 ≤ a
not_below a e = grind (arith, nat_tests)

number_case : (e f : Bool) (b : ℕ) (cs : List ActionId) (x : ActionId) → nat_eq b (length cs) ≡ e → nat_lt (length cs) 9 ≡ f → b ≤ length cs
    → (length cs ≤ length (cond (e && f) (cs ++ x ∷ []) cs)) × IsKnown (length (cond (e && f) (cs ++ x ∷ []) cs)) (b + 1)
number_case true true b cs x h g k = (omega (arith, longer cs x), (omega arith, inl (omega (arith, longer cs x, equal_tests b (length cs) h))))
number_case true false b cs x h g k = (omega arith, (omega arith, inr (not_below (length cs) g)))
number_case false f b cs x h g k = (omega arith, (omega arith, inl (other_tests b (length cs) h k)))

record IsMet (c : Counts) (l : Layer) (d : Counts) : Type 0 where
  grows : length c.conditions ≤ length d.conditions
  known : IsLayerKnown (length d.conditions) l

layer_met : (q : Put) (c : Counts) → IsMet c (layer_of q c).0 (layer_of q c).1
layer_met (put.Action t x) c = record { grows = omega arith; known = none_known (length c.conditions) }
layer_met (put.Priority t x v) c = record { grows = omega arith; known = none_known (length c.conditions) }
layer_met (put.Mark class kind x) c = record { grows = omega arith; known = none_known (length c.conditions) }
layer_met (put.When x) c =
    let b = conditions_before x c.conditions in
    let m = number_case (nat_eq b (length c.conditions)) (nat_lt (length c.conditions) 9) b c.conditions x refl refl (before_within x c.conditions) in
    record { grows = m.0; known = All-cons (IsKnown (length (layer_of (put.When x) c).1.conditions)) (b + 1) [] m.1 (none_known (length (layer_of (put.When x) c).1.conditions)) }

-- ---- rows

AllKnown : ℕ → List Placed → Type 0
AllKnown m [] = Unit {0}
AllKnown m (x ∷ xs) = AreKnown m x.node × AllKnown m xs

behind_known : (m : ℕ) (x : Placed) (xs : List Placed) (at : Place) → AreKnown m x.node → AllKnown m xs → AreKnown m (row_behind x xs at).node
unfolding AllKnown
behind_known m x [] at h hs = h
behind_known m x (y ∷ ys) at h hs = behind_known m (paired p.Then x y at) ys at (pair_known p.Then m x.node y.node h hs.0) hs.1

row_known : (m : ℕ) (xs : List Placed) (at : Place) → AllKnown m xs → AreKnown m (row xs at).node
unfolding AllKnown
row_known m [] at hs = null_known m
row_known m (x ∷ xs) at hs = behind_known m x xs at hs.0 hs.1

both_known : (m : ℕ) (xs ys : List Placed) → AllKnown m xs → AllKnown m ys → AllKnown m (xs ++ ys)
unfolding AllKnown
both_known m [] ys hs gs = gs
both_known m (x ∷ xs) ys hs gs = (hs.0, both_known m xs ys hs.1 gs)

copies_known : (m k : ℕ) (x : Placed) → AreKnown m x.node → AllKnown m (replicate k x)
unfolding AllKnown
copies_known m zero x h = tt
copies_known m (suc k) x h = (h, copies_known m k x h)

-- ---- walks

record IsGrown (c : Counts) (x : Placed × Counts) : Type 0 where
  grows : length c.conditions ≤ length x.1.conditions
  known : AreKnown (length x.1.conditions) x.0.node

counted_known : (least : ℕ) (most : Option ℕ) (at : Place) (x : Placed) (c : Counts) → AreKnown (length c.conditions) x.node → IsGrown c (counted least most at x c)
unfolding AllKnown
counted_known least (Some most) at x c g = record {
  grows = omega arith;
  known = row_known (length c.conditions) (replicate least x ++ replicate (most - least) (optional x at)) at
      (both_known (length c.conditions) (replicate least x) (replicate (most - least) (optional x at)) (copies_known (length c.conditions) least x g)
      (copies_known (length c.conditions) (most - least) (optional x at) (pair_known p.Either (length c.conditions) x.node n.Null g (null_known (length c.conditions)))));
}
counted_known least None at x c g = record {
  grows = omega arith;
  known = row_known (length c.conditions) (replicate least x ++ star x (c.stamp + 1) at ∷ []) at
      (both_known (length c.conditions) (replicate least x) (star x (c.stamp + 1) at ∷ []) (copies_known (length c.conditions) least x g)
      (star_known (length c.conditions) x.node (c.stamp + 1) g, tt));
}

count_known : (b : Bool) (least : ℕ) (most : Option ℕ) (at : Place) (x : Placed × Counts) (c : Counts) → IsGrown c x
    → IsGrown c (cond {A = Placed × Counts} b (counted least most at x.0 x.1) (single n.Null at, c))
count_known true least most at x c h = let r = counted_known least most at x.0 x.1 h.known in record { grows = omega (arith, h.grows, r.grows); known = r.known }
count_known false least most at x c h = record { grows = omega arith; known = null_known (length c.conditions) }

AreLayersKnown : ℕ → List (Option Layer) → Type 0
AreLayersKnown m [] = Unit {0}
AreLayersKnown m (None ∷ ls) = AreLayersKnown m ls
AreLayersKnown m (Some l ∷ ls) = IsLayerKnown m l × AreLayersKnown m ls

layers_later : (m k : ℕ) (ls : List (Option Layer)) → m ≤ k → AreLayersKnown m ls → AreLayersKnown k ls
unfolding AreLayersKnown
layers_later m k [] h all = tt
layers_later m k (None ∷ ls) h all = layers_later m k ls h all
layers_later m k (Some l ∷ ls) h all = (layer_later m k l h all.0, layers_later m k ls h all.1)

record AreFirst (c : Counts) (r : List (Option Layer) × Counts) : Type 0 where
  grows : length c.conditions ≤ length r.1.conditions
  known : AreLayersKnown (length r.1.conditions) r.0

first_case : (b : Bool) (y : Layer × Counts) (ps : List Put) (c : Counts) → IsMet c y.0 y.1 → ((d : Counts) → AreFirst d (first_layers ps d))
    → AreFirst c (cond {A = List (Option Layer) × Counts} b (Some y.0 ∷ (first_layers ps y.1).0, (first_layers ps y.1).1) (None ∷ (first_layers ps c).0, (first_layers ps c).1))
unfolding AreLayersKnown
first_case true y ps c h f =
    let r = f y.1 in
    record { grows = omega (arith, h.grows, r.grows); known = (layer_later (length y.1.conditions) (length (first_layers ps y.1).1.conditions) y.0 r.grows h.known, r.known) }
first_case false y ps c h f = let r = f c in record { grows = r.grows; known = r.known }

first_known : (ps : List Put) (c : Counts) → AreFirst c (first_layers ps c)
unfolding AreLayersKnown
first_known [] c = record { grows = omega arith; known = tt }
first_known (q ∷ ps) c = first_case (is_first q) (layer_of q c) ps c (layer_met q c) (first_known ps)

around_known : (ps : List Put) (ls : List (Option Layer)) (at : Place) (x : Placed) (c : Counts) → AreKnown (length c.conditions) x.node → AreLayersKnown (length c.conditions) ls
    → IsGrown c (around ps ls at x c)
unfolding AreLayersKnown
around_known [] ls at x c g k = record { grows = omega arith; known = g }
around_known (q ∷ ps) [] at x c g k = record { grows = omega arith; known = g }
around_known (q ∷ ps) (None ∷ ls) at x c g k =
    let y = layer_of q c in
    let f = layer_met q c in
    let r = around_known ps ls at (layered y.0 x at) y.1 (layer_known y.0 (length y.1.conditions) x.node f.known (later (length c.conditions) (length y.1.conditions) x.node f.grows g))
    (layers_later (length c.conditions) (length y.1.conditions) ls f.grows k) in
    record { grows = omega (arith, f.grows, r.grows); known = r.known }
around_known (q ∷ ps) (Some l ∷ ls) at x c g k = around_known ps ls at (layered l x at) c (layer_known l (length c.conditions) x.node k.0 g) k.1

grown_pair : (q : Pairing) (c : Counts) (x y : Placed × Counts) (at : Place) → IsGrown c x → IsGrown x.1 y → IsGrown c (paired q x.0 y.0 at, y.1)
grown_pair q c x y at h g = record {
  grows = omega (arith, h.grows, g.grows);
  known = pair_known q (length y.1.conditions) x.0.node y.0.node (later (length x.1.conditions) (length y.1.conditions) x.0.node g.grows h.known) g.known;
}

step_known : (l : Layer) (c d : Counts) (x : Placed × Counts) (at : Place) → length x.1.conditions ≡ length d.conditions → IsLayerKnown (length d.conditions) l → IsGrown c x → IsGrown c (layered l x.0 at, d)
step_known l c d x at e k h = record {
  grows = omega (arith, h.grows, e);
  known = layer_known l (length d.conditions) x.0.node k (later (length x.1.conditions) (length d.conditions) x.0.node (omega (arith, e)) h.known);
}

right_known : (g : Guard) (u : ℕ) (at : Place) (w : Walk Placed) (c : Counts) → ((d : Counts) → IsGrown d (w d)) → IsGrown c (guarded_right g u at w c)
right_known p.Left u at w c f =
    let r = step_known (layer.Step t.Entering (Prior (c.stamp + 1) u (right_value p.Left))) (stamped c) (w (stamped c)).1 (w (stamped c)) at refl (none_known (length (w (stamped c)).1.conditions)) (f (stamped c)) in
    record { grows = r.grows; known = r.known }
right_known p.Entry u at w c f =
    let r = step_known (layer.Step t.Entering (Prior (c.stamp + 1) u (right_value p.Entry))) (stamped c) (w (stamped c)).1 (w (stamped c)) at refl (none_known (length (w (stamped c)).1.conditions)) (f (stamped c)) in
    record { grows = r.grows; known = r.known }
right_known p.Finish u at w c f = step_known (layer.Step t.Finishing (Prior ((w c).1.stamp + 1) u (right_value p.Finish))) c (stamped (w c).1) (w c) at refl (none_known (length (w c).1.conditions)) (f c)

walk_known : (q : Plain) (c : Counts) → IsGrown c (walk q c)
walk_known (p.Set ranges at) c = record { grows = omega arith; known = set_known (length c.conditions) ranges }
walk_known (p.Null at) c = record { grows = omega arith; known = null_known (length c.conditions) }
walk_known (p.Nothing at) c = record { grows = omega arith; known = nothing_known (length c.conditions) }
walk_known (p.Pair q a b at) c = grown_pair q c (walk a c) (walk b (walk a c).1) at (walk_known a c) (walk_known b (walk a c).1)
walk_known (p.Guarded g a b at) c =
    let x = walk a c in
    let l = guarded_left g (new_name x.1) at x.0 (with_new_name x.1) in
    let left = step_known (layer.Step t.All (Prior (x.1.stamp + 1) (new_name x.1) (left_value g))) c l.1 x at refl (none_known (length x.1.conditions)) (walk_known a c) in
    let r = right_known g (new_name x.1) at (walk b) l.1 (walk_known b) in
    grown_pair p.Then c l (guarded_right g (new_name x.1) at (walk b) l.1) at left r
walk_known (p.Longest a at) c =
    let x = walk a c in
    let h = walk_known a c in
    let u = new_name x.1 in
    let m = length x.1.conditions in
    let l1 = layer.Step t.All (Prior (x.1.stamp + 1) u (pos 1)) in
    let l2 = layer.Step t.Leaving (Prior (x.1.stamp + 2) u (pos 0)) in
    record {
      grows = h.grows;
      known = star_known m (layer_node l2 (layer_node l1 x.0.node)) (x.1.stamp + 3)
          (layer_known l2 m (layer_node l1 x.0.node) (none_known m) (layer_known l1 m x.0.node (none_known m) h.known));
    }
walk_known (p.Count a least most at) c = count_known (has_copies least most) least most at (walk a c) c (walk_known a c)
walk_known (p.Series a ps at) c =
    let l = first_layers ps c in
    let f = first_known ps c in
    let x = walk a l.1 in
    let h = walk_known a l.1 in
    let r = around_known ps l.0 at x.0 x.1 h.known (layers_later (length l.1.conditions) (length x.1.conditions) l.0 h.grows f.known) in
    record { grows = omega (arith, f.grows, h.grows, r.grows); known = r.known }

few_known : (m s : ℕ) → m ≤ 8 → IsKnown m s → (1 ≤ s) × (s ≤ m)
few_known m s h (e, inl g) = (e, g)
few_known m s h (e, inr g) = absurd (omega arith)

-- conditions go on, and those of the tree are among them
pub walk_conditions : (q : Plain) (c : Counts) → length (walk q c).1.conditions ≤ 8 → All (λ s. (1 ≤ s) × (s ≤ length (walk q c).1.conditions)) (conditions_in (walk q c).0.node)
unfolding AreKnown
walk_conditions q c h = All-weaker (IsKnown (length (walk q c).1.conditions)) (λ s. (1 ≤ s) × (s ≤ length (walk q c).1.conditions)) (λ s e. few_known (length (walk q c).1.conditions) s h e)
    (conditions_in (walk q c).0.node) (walk_known q c).known

pub walk_grows : (q : Plain) (c : Counts) → length c.conditions ≤ length (walk q c).1.conditions
walk_grows q c = (walk_known q c).grows
