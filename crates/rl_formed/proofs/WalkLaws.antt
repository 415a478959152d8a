-- What holds of all that is embedded in an expression holds of the tree that a walk makes of it, and of its conditions.
use Rattle.std.proofs.Common.{ℕ, zero, suc, ◌+◌, ◌-◌, ◌++◌, Bool, true, false, cond, List, [], ◌∷◌, Option, Some, None, replicate, length}
use Rattle.std.specs.Prelude.{pos, nat_eq, nat_lt, ◌&&◌}
use Rattle.rl_types.specs.declared.numbers.ActionId.{ActionId}
use Rattle.rl_types.specs.declared.numbers.Place.{Place}
use Rattle.rl_draft.specs.declared.expression.Put.{Put}
use Rattle.rl_draft.specs.declared.expression.Put.TheVariants as put
use Rattle.rl_draft.specs.declared.expression.Transitions.{Transitions}
use Rattle.rl_draft.specs.declared.expression.Transitions.TheVariants as t
use Rattle.rl_automata.specs.declared.tree.Kind.{Kind}
use Rattle.rl_automata.specs.declared.tree.Label.{Label}
use Rattle.rl_automata.specs.declared.tree.Label.TheVariants.{Action, Prior}
use Rattle.rl_types.specs.KeyRange.{Range}
use Rattle.rl_automata.specs.Nodes as n
use Rattle.rl_automata.specs.Nodes.{Node}
use Rattle.rl_automata.specs.Scans.{Pattern}
use Rattle.rl_model.specs.Counts.{actions_in, turn_action, turn_actions_in, trees_of}
use Rattle.rl_rewrite.specs.declared.counts.Counts.{Counts}
use Rattle.rl_rewrite.specs.declared.layers.Layer.{Layer}
use Rattle.rl_rewrite.specs.declared.layers.Layer.TheVariants as layer
use Rattle.rl_rewrite.specs.Plain as p
use Rattle.rl_rewrite.specs.Plain.{Plain, Pairing, Guard, PlainPattern, PlainValue}
use Rattle.rl_rewrite.specs.Walk.{Placed, Walk, walk, walk_patterns, walk_value, around, first_layers, layer_of, is_first, layer_node, layered, counted, has_copies, paired, pair_node, row, row_behind, star, optional, single, guarded_right, guarded_left, new_name, with_new_name, stamped, left_value, right_value, conditions_before}
use Rattle.rl_form.proofs.Lists.{Each, each_append, each_map}

-- what is asked of actions in transitions, of actions in states, and of conditions
pub record Asked : Type 1 where
  pub OfAction : ℕ → Type 0
  pub OfState : Kind → ℕ → Type 0
  pub OfCondition : ℕ → Type 0

module _ (A : Asked) where
  -- what is embedded is such
  abbrev pub HoldsOfPut : Put → Type 0
  HoldsOfPut (put.Action t x) = A.OfAction x.0
  HoldsOfPut (put.Priority t x v) = Unit {0}
  HoldsOfPut (put.Mark class kind x) = A.OfState kind x.0
  HoldsOfPut (put.When x) = A.OfCondition x.0

  abbrev pub HoldsOf : Plain → Type 0
  HoldsOf (p.Set ranges at) = Unit {0}
  HoldsOf (p.Null at) = Unit {0}
  HoldsOf (p.Nothing at) = Unit {0}
  HoldsOf (p.Pair q a b at) = HoldsOf a × HoldsOf b
  HoldsOf (p.Guarded g a b at) = HoldsOf a × HoldsOf b
  HoldsOf (p.Longest a at) = HoldsOf a
  HoldsOf (p.Count a least most at) = HoldsOf a
  HoldsOf (p.Series a ps at) = HoldsOf a × Each HoldsOfPut ps

  abbrev pub InConditions : List ActionId → Type 0
  InConditions cs = Each (λ (a : ActionId). A.OfCondition a.0) cs

  -- the label's action is such a one
  abbrev pub InLabel : Label → Type 0
  InLabel (Action s x) = A.OfAction x.0
  InLabel (Prior s n v) = Unit {0}

  abbrev pub InLayer : Layer → Type 0
  InLayer (layer.Step t l) = InLabel l
  InLayer (layer.State class kind stamp action) = A.OfState kind action.0
  InLayer (layer.When condition) = Unit {0}

-- it is kept by all that a walk makes
pub record IsKeptBy (A : Asked) (InTree : Node → Type 0) : Type 0 where
  pub null : InTree n.Null
  pub nothing : InTree n.Nothing
  pub set : (ranges : List Range) → InTree (n.Set ranges)
  pub pair : (q : Pairing) (x y : Node) → InTree x → InTree y → InTree (pair_node q x y)
  pub star : (x : Node) (base : ℕ) → InTree x → InTree (n.Star x base)
  pub layer : (l : Layer) (x : Node) → InLayer A l → InTree x → InTree (layer_node l x)

module _ (A : Asked) (InTree : Node → Type 0) (kept : IsKeptBy A InTree) where
  InLayers : List (Option Layer) → Type 0
  InLayers [] = Unit {0}
  InLayers (None ∷ ls) = InLayers ls
  InLayers (Some l ∷ ls) = InLayer A l × InLayers ls

  -- ---- rows

  InAll : List Placed → Type 0
  InAll [] = Unit {0}
  InAll (x ∷ xs) = InTree x.node × InAll xs

  behind_in : (x : Placed) (xs : List Placed) (at : Place) → InTree x.node → InAll xs → InTree (row_behind x xs at).node
  unfolding InAll
  behind_in x [] at h hs = h
  behind_in x (y ∷ ys) at h hs = behind_in (paired p.Then x y at) ys at (kept.pair p.Then x.node y.node h hs.0) hs.1

  row_in : (xs : List Placed) (at : Place) → InAll xs → InTree (row xs at).node
  unfolding InAll
  row_in [] at hs = kept.null
  row_in (x ∷ xs) at hs = behind_in x xs at hs.0 hs.1

  both_in : (xs ys : List Placed) → InAll xs → InAll ys → InAll (xs ++ ys)
  unfolding InAll
  both_in [] ys hs gs = gs
  both_in (x ∷ xs) ys hs gs = (hs.0, both_in xs ys hs.1 gs)

  copies_in : (k : ℕ) (x : Placed) → InTree x.node → InAll (replicate k x)
  unfolding InAll
  copies_in zero x h = tt
  copies_in (suc k) x h = (h, copies_in k x h)

  -- ---- what a walk does

  -- such actions in the tree, and such conditions behind it
  record Keeps (x : Placed × Counts) : Type 0 where
    tree : InTree x.0.node
    conditions : InConditions A x.1.conditions

  counted_in : (least : ℕ) (most : Option ℕ) (at : Place) (x : Placed) (c : Counts) → InTree x.node → InConditions A c.conditions → Keeps (counted least most at x c)
  unfolding InAll
  counted_in least (Some most) at x c h k = record {
    tree = row_in (replicate least x ++ replicate (most - least) (optional x at)) at
        (both_in (replicate least x) (replicate (most - least) (optional x at)) (copies_in least x h)
        (copies_in (most - least) (optional x at) (kept.pair p.Either x.node n.Null h kept.null)));
    conditions = k;
  }
  counted_in least None at x c h k = record {
    tree = row_in (replicate least x ++ star x (c.stamp + 1) at ∷ []) at
        (both_in (replicate least x) (star x (c.stamp + 1) at ∷ []) (copies_in least x h) (kept.star x.node (c.stamp + 1) h, tt));
    conditions = k;
  }

  count_in : (b : Bool) (least : ℕ) (most : Option ℕ) (at : Place) (x : Placed × Counts) (c : Counts) → Keeps x → InConditions A c.conditions
      → Keeps (cond {A = Placed × Counts} b (counted least most at x.0 x.1) (single n.Null at, c))
  count_in true least most at x c h k = counted_in least most at x.0 x.1 h.tree h.conditions
  count_in false least most at x c h k = record { tree = kept.null; conditions = k }

  pushed_in : (b : Bool) (cs : List ActionId) (x : ActionId) → A.OfCondition x.0 → InConditions A cs → InConditions A (cond b (cs ++ x ∷ []) cs)
  pushed_in true cs x h k = each_append (λ (a : ActionId). A.OfCondition a.0) cs (x ∷ []) k (h, tt)
  pushed_in false cs x h k = k

  record KeepsLayer (y : Layer × Counts) : Type 0 where
    layer : InLayer A y.0
    conditions : InConditions A y.1.conditions

  layer_of_in : (q : Put) (c : Counts) → HoldsOfPut A q → InConditions A c.conditions → KeepsLayer (layer_of q c)
  layer_of_in (put.Action t x) c h k = record { layer = h; conditions = k }
  layer_of_in (put.Priority t x v) c h k = record { layer = tt; conditions = k }
  layer_of_in (put.Mark class kind x) c h k = record { layer = h; conditions = k }
  layer_of_in (put.When x) c h k = record {
    layer = tt;
    conditions = pushed_in (nat_eq (conditions_before x c.conditions) (length c.conditions) && nat_lt (length c.conditions) 9) c.conditions x h k;
  }

  record KeepsFirst (r : List (Option Layer) × Counts) : Type 0 where
    layers : InLayers r.0
    conditions : InConditions A r.1.conditions

  first_case : (b : Bool) (y : Layer × Counts) (ps : List Put) (c : Counts) → KeepsLayer y → InConditions A c.conditions → ((d : Counts) → InConditions A d.conditions → KeepsFirst (first_layers ps d))
      → KeepsFirst (cond {A = List (Option Layer) × Counts} b (Some y.0 ∷ (first_layers ps y.1).0, (first_layers ps y.1).1) (None ∷ (first_layers ps c).0, (first_layers ps c).1))
  unfolding InLayers
  first_case true y ps c h k f = let r = f y.1 h.conditions in record { layers = (h.layer, r.layers); conditions = r.conditions }
  first_case false y ps c h k f = let r = f c k in record { layers = r.layers; conditions = r.conditions }

  first_in : (ps : List Put) (c : Counts) → Each (HoldsOfPut A) ps → InConditions A c.conditions → KeepsFirst (first_layers ps c)
  unfolding InLayers
  first_in [] c h k = record { layers = tt; conditions = k }
  first_in (q ∷ ps) c h k = first_case (is_first q) (layer_of q c) ps c (layer_of_in q c h.0 k) k (λ d e. first_in ps d h.1 e)

  around_in : (ps : List Put) (ls : List (Option Layer)) (at : Place) (x : Placed) (c : Counts) → Each (HoldsOfPut A) ps → InLayers ls → InTree x.node → InConditions A c.conditions → Keeps (around ps ls at x c)
  unfolding InLayers
  around_in [] ls at x c h ks g k = record { tree = g; conditions = k }
  around_in (q ∷ ps) [] at x c h ks g k = record { tree = g; conditions = k }
  around_in (q ∷ ps) (None ∷ ls) at x c h ks g k =
      let y = layer_of q c in
      let f = layer_of_in q c h.0 k in
      around_in ps ls at (layered y.0 x at) y.1 h.1 ks (kept.layer y.0 x.node f.layer g) f.conditions
  around_in (q ∷ ps) (Some l ∷ ls) at x c h ks g k = around_in ps ls at (layered l x at) c h.1 ks.1 (kept.layer l x.node ks.0 g) k

  right_in : (g : Guard) (u : ℕ) (at : Place) (w : Walk Placed) (c : Counts) → InConditions A c.conditions → ((d : Counts) → InConditions A d.conditions → Keeps (w d)) → Keeps (guarded_right g u at w c)
  right_in p.Left u at w c k f =
      let r = f (stamped c) k in
      record { tree = kept.layer (layer.Step t.Entering (Prior (c.stamp + 1) u (right_value p.Left))) (w (stamped c)).0.node tt r.tree; conditions = r.conditions }
  right_in p.Entry u at w c k f =
      let r = f (stamped c) k in
      record { tree = kept.layer (layer.Step t.Entering (Prior (c.stamp + 1) u (right_value p.Entry))) (w (stamped c)).0.node tt r.tree; conditions = r.conditions }
  right_in p.Finish u at w c k f =
      let r = f c k in
      record { tree = kept.layer (layer.Step t.Finishing (Prior ((w c).1.stamp + 1) u (right_value p.Finish))) (w c).0.node tt r.tree; conditions = r.conditions }

  walk_in : (q : Plain) (c : Counts) → HoldsOf A q → InConditions A c.conditions → Keeps (walk q c)
  walk_in (p.Set ranges at) c h k = record { tree = kept.set ranges; conditions = k }
  walk_in (p.Null at) c h k = record { tree = kept.null; conditions = k }
  walk_in (p.Nothing at) c h k = record { tree = kept.nothing; conditions = k }
  walk_in (p.Pair q a b at) c h k =
      let x = walk_in a c h.0 k in
      let y = walk_in b (walk a c).1 h.1 x.conditions in
      record { tree = kept.pair q (walk a c).0.node (walk b (walk a c).1).0.node x.tree y.tree; conditions = y.conditions }
  walk_in (p.Guarded g a b at) c h k =
      let x = walk a c in
      let r = walk_in a c h.0 k in
      let l = guarded_left g (new_name x.1) at x.0 (with_new_name x.1) in
      let y = right_in g (new_name x.1) at (walk b) l.1 r.conditions (λ d e. walk_in b d h.1 e) in
      record {
        tree = kept.pair p.Then l.0.node (guarded_right g (new_name x.1) at (walk b) l.1).0.node
            (kept.layer (layer.Step t.All (Prior (x.1.stamp + 1) (new_name x.1) (left_value g))) x.0.node tt r.tree) y.tree;
        conditions = y.conditions;
      }
  walk_in (p.Longest a at) c h k =
      let x = walk a c in
      let r = walk_in a c h k in
      let u = new_name x.1 in
      let l1 = layer.Step t.All (Prior (x.1.stamp + 1) u (pos 1)) in
      let l2 = layer.Step t.Leaving (Prior (x.1.stamp + 2) u (pos 0)) in
      record {
        tree = kept.star (layer_node l2 (layer_node l1 x.0.node)) (x.1.stamp + 3) (kept.layer l2 (layer_node l1 x.0.node) tt (kept.layer l1 x.0.node tt r.tree));
        conditions = r.conditions;
      }
  walk_in (p.Count a least most at) c h k = count_in (has_copies least most) least most at (walk a c) c (walk_in a c h k) k
  walk_in (p.Series a ps at) c h k =
      let l = first_in ps c h.1 k in
      let x = walk_in a (first_layers ps c).1 h.0 l.conditions in
      around_in ps (first_layers ps c).0 at (walk a (first_layers ps c).1).0 (walk a (first_layers ps c).1).1 h.1 l.layers x.tree x.conditions

  -- ---- entries

  abbrev HoldsOfPatterns : List PlainPattern → Type 0
  HoldsOfPatterns qs = Each (λ (q : PlainPattern). HoldsOf A q.plain) qs

  -- it holds of the expression, or of those of all patterns
  abbrev pub HoldsOfValue : PlainValue → Type 0
  HoldsOfValue (p.Expression q) = HoldsOf A q
  HoldsOfValue (p.Scanner qs at) = HoldsOfPatterns qs

  abbrev InPatterns : List Pattern → Type 0
  InPatterns ps = Each (λ (q : Pattern). InTree q.tree) ps

  patterns_in : (qs : List PlainPattern) (c : Counts) → HoldsOfPatterns qs → InConditions A c.conditions → InPatterns (walk_patterns qs c).0.patterns × InConditions A (walk_patterns qs c).1.conditions
  patterns_in [] c h k = (tt, k)
  patterns_in (q ∷ qs) c h k =
      let x = walk_in q.plain c h.0 k in
      let y = patterns_in qs (walk q.plain c).1 h.1 x.conditions in
      ((x.tree, y.0), y.1)

  -- such trees, and such conditions
  pub value_holds : (v : PlainValue) (c : Counts) → HoldsOfValue v → InConditions A c.conditions → Each InTree (trees_of (walk_value v c).0.root) × InConditions A (walk_value v c).1.conditions
  value_holds (p.Expression q) c h k = let r = walk_in q c h k in ((r.tree, tt), r.conditions)
  value_holds (p.Scanner qs at) c h k =
      let r = patterns_in qs c h k in
      (each_map InTree (λ (x : Pattern). x.tree) (walk_patterns qs c).0.patterns r.0, r.1)

-- ---- actions

-- each action that is embedded is such a one, and each condition is of its own kind
abbrev pub embeds_asked : (ℕ → Type 0) → (ℕ → Type 0) → Asked
embeds_asked R C = record { OfAction = R; OfState = λ kind x. R x; OfCondition = C }

-- each action is such a one, wherever it is embedded
abbrev pub all_asked : (ℕ → Type 0) → Asked
all_asked R = embeds_asked R R

module _ (R C : ℕ → Type 0) where
  abbrev InActions : Node → Type 0
  InActions x = Each R (actions_in x)

  pair_actions : (q : Pairing) (x y : Node) → InActions x → InActions y → InActions (pair_node q x y)
  pair_actions p.Either x y h g = each_append R (actions_in x) (actions_in y) h g
  pair_actions p.Both x y h g = each_append R (actions_in x) (actions_in y) h g
  pair_actions p.Less x y h g = each_append R (actions_in x) (actions_in y) h g
  pair_actions p.Then x y h g = each_append R (actions_in x) (actions_in y) h g

  step_actions : (t : Transitions) (l : Label) (x : Node) → InLabel (embeds_asked R C) l → InActions x → InActions (layer_node (layer.Step t l) x)
  step_actions t.Entering (Action s a) x h g = (h, g)
  step_actions t.Entering (Prior s u v) x h g = g
  step_actions t.Finishing (Action s a) x h g = (h, g)
  step_actions t.Finishing (Prior s u v) x h g = g
  step_actions t.All (Action s a) x h g = (h, g)
  step_actions t.All (Prior s u v) x h g = g
  step_actions t.Leaving (Action s a) x h g = (h, g)
  step_actions t.Leaving (Prior s u v) x h g = g

  layer_actions : (l : Layer) (x : Node) → InLayer (embeds_asked R C) l → InActions x → InActions (layer_node l x)
  layer_actions (layer.Step t l) x h g = step_actions t l x h g
  layer_actions (layer.State class kind stamp action) x h g = (h, g)
  layer_actions (layer.When condition) x h g = g

  pub keeps_actions : IsKeptBy (embeds_asked R C) (λ x. Each R (actions_in x))
  keeps_actions = record {
    null = tt;
    nothing = tt;
    set = λ ranges. tt;
    pair = pair_actions;
    star = λ x base h. h;
    layer = layer_actions;
  }

-- ---- conditions, to-state and from-state actions

-- each of these is such a one
abbrev pub turn_asked : (ℕ → Type 0) → Asked
turn_asked R = record { OfAction = λ x. Unit {0}; OfState = λ kind x. Each R (turn_action kind x); OfCondition = R }

module _ (R : ℕ → Type 0) where
  abbrev InTurns : Node → Type 0
  InTurns x = Each R (turn_actions_in x)

  pair_turns : (q : Pairing) (x y : Node) → InTurns x → InTurns y → InTurns (pair_node q x y)
  pair_turns p.Either x y h g = each_append R (turn_actions_in x) (turn_actions_in y) h g
  pair_turns p.Both x y h g = each_append R (turn_actions_in x) (turn_actions_in y) h g
  pair_turns p.Less x y h g = each_append R (turn_actions_in x) (turn_actions_in y) h g
  pair_turns p.Then x y h g = each_append R (turn_actions_in x) (turn_actions_in y) h g

  layer_turns : (l : Layer) (x : Node) → InLayer (turn_asked R) l → InTurns x → InTurns (layer_node l x)
  layer_turns (layer.Step t.Entering l) x h g = g
  layer_turns (layer.Step t.Finishing l) x h g = g
  layer_turns (layer.Step t.All l) x h g = g
  layer_turns (layer.Step t.Leaving l) x h g = g
  layer_turns (layer.State class kind stamp action) x h g = each_append R (turn_action kind action.0) (turn_actions_in x) h g
  layer_turns (layer.When condition) x h g = g

  pub keeps_turns : IsKeptBy (turn_asked R) (λ x. Each R (turn_actions_in x))
  keeps_turns = record {
    null = tt;
    nothing = tt;
    set = λ ranges. tt;
    pair = pair_turns;
    star = λ x base h. h;
    layer = layer_turns;
  }
