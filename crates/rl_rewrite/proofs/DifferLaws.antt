-- No condition is listed twice, and the conditions of all entries have numbers of the list.
use Rattle.std.proofs.Common.{◌≡◌, ℕ, suc, ◌+◌, ◌≤◌, ◌++◌, Bool, true, false, cond, List, [], ◌∷◌, map, Option, Some, None, length, inl, inr, refl, arith}
use Rattle.std.specs.Prelude.{All, ◌&&◌, ◌⊎◌, nat_eq, nat_lt, not}
use Rattle.std.specs.List.{flat_map}
use Rattle.std.proofs.lemmas.Bool.Decides.{nat_tests}
use Rattle.std.proofs.lemmas.List.Elements.{All-nil, All-cons, All-append, All-weaker}
use Rattle.rl_sets.specs.Sets.{In}
use Rattle.rl_types.specs.declared.numbers.Place.{Place}
use Rattle.rl_types.specs.declared.numbers.ActionId.{ActionId}
use Rattle.rl_draft.specs.declared.expression.Put.{Put}
use Rattle.rl_draft.specs.declared.expression.Put.TheVariants as put
use Rattle.rl_automata.specs.Nodes as n
use Rattle.rl_automata.specs.Refused.{AreDifferent, conditions_in}
use Rattle.rl_model.specs.Counts.{trees_of}
use Rattle.rl_model.specs.WellFormed.{IsNumber}
use Rattle.rl_rewrite.specs.declared.counts.Counts.{Counts}
use Rattle.rl_rewrite.specs.declared.layers.Layer.{Layer}
use Rattle.rl_rewrite.specs.Plain as p
use Rattle.rl_rewrite.specs.Plain.{Plain, Guard, PlainPattern, PlainValue}
use Rattle.rl_rewrite.specs.Walk.{Placed, Walk, walk, walk_patterns, walk_value, around, first_layers, layer_of, is_first, layered, counted, has_copies, single, guarded_right, guarded_left, new_name, with_new_name, stamped, conditions_before, with_condition, begun}
use Rattle.rl_rewrite.specs.Entries.{Made, Meaning, is_entry, entry, entries, all_conditions, made_by, conditions_by, conditions_behind}
use Rattle.rl_rewrite.proofs.PatternLaws.{root_conditions, root_grows}

-- ---- what each new condition keeps, a walk keeps

module _ (Q : List ActionId → Type 0) (keep : (x : ActionId) (c : Counts) → Q c.conditions → Q (with_condition x c).conditions) where
  layer_keeps : (q : Put) (c : Counts) → Q c.conditions → Q (layer_of q c).1.conditions
  layer_keeps (put.Action t x) c h = h
  layer_keeps (put.Priority t x v) c h = h
  layer_keeps (put.Mark class kind x) c h = h
  layer_keeps (put.When x) c h = keep x c h

  first_case : (b : Bool) (y : Layer × Counts) (ps : List Put) (c : Counts) → Q y.1.conditions → Q c.conditions → ((d : Counts) → Q d.conditions → Q (first_layers ps d).1.conditions)
      → Q (cond {A = List (Option Layer) × Counts} b (Some y.0 ∷ (first_layers ps y.1).0, (first_layers ps y.1).1) (None ∷ (first_layers ps c).0, (first_layers ps c).1)).1.conditions
  first_case true y ps c h g f = f y.1 h
  first_case false y ps c h g f = f c g

  first_keeps : (ps : List Put) (c : Counts) → Q c.conditions → Q (first_layers ps c).1.conditions
  first_keeps [] c h = h
  first_keeps (q ∷ ps) c h = first_case (is_first q) (layer_of q c) ps c (layer_keeps q c h) h (λ d. first_keeps ps d)

  around_keeps : (ps : List Put) (ls : List (Option Layer)) (at : Place) (x : Placed) (c : Counts) → Q c.conditions → Q (around ps ls at x c).1.conditions
  around_keeps [] ls at x c h = h
  around_keeps (q ∷ ps) [] at x c h = h
  around_keeps (q ∷ ps) (None ∷ ls) at x c h = around_keeps ps ls at (layered (layer_of q c).0 x at) (layer_of q c).1 (layer_keeps q c h)
  around_keeps (q ∷ ps) (Some l ∷ ls) at x c h = around_keeps ps ls at (layered l x at) c h

  counted_keeps : (least : ℕ) (most : Option ℕ) (at : Place) (x : Placed) (c : Counts) → Q c.conditions → Q (counted least most at x c).1.conditions
  counted_keeps least None at x c h = h
  counted_keeps least (Some most) at x c h = h

  count_keeps : (b : Bool) (least : ℕ) (most : Option ℕ) (at : Place) (x : Placed × Counts) (c : Counts) → Q c.conditions → Q x.1.conditions
      → Q (cond {A = Placed × Counts} b (counted least most at x.0 x.1) (single n.Null at, c)).1.conditions
  count_keeps true least most at x c h g = counted_keeps least most at x.0 x.1 g
  count_keeps false least most at x c h g = h

  right_keeps : (g : Guard) (u : ℕ) (at : Place) (w : Walk Placed) (c : Counts) → ((d : Counts) → Q d.conditions → Q (w d).1.conditions) → Q c.conditions → Q (guarded_right g u at w c).1.conditions
  right_keeps p.Left u at w c f h = f (stamped c) h
  right_keeps p.Entry u at w c f h = f (stamped c) h
  right_keeps p.Finish u at w c f h = f c h

  walk_keeps : (q : Plain) (c : Counts) → Q c.conditions → Q (walk q c).1.conditions
  walk_keeps (p.Set ranges at) c h = h
  walk_keeps (p.Null at) c h = h
  walk_keeps (p.Nothing at) c h = h
  walk_keeps (p.Pair q a b at) c h = walk_keeps b (walk a c).1 (walk_keeps a c h)
  walk_keeps (p.Guarded g a b at) c h =
      let x = walk a c in
      let l = guarded_left g (new_name x.1) at x.0 (with_new_name x.1) in
      right_keeps g (new_name x.1) at (walk b) l.1 (λ d. walk_keeps b d) (walk_keeps a c h)
  walk_keeps (p.Longest a at) c h = walk_keeps a c h
  walk_keeps (p.Count a least most at) c h = count_keeps (has_copies least most) least most at (walk a c) c h (walk_keeps a c h)
  walk_keeps (p.Series a ps at) c h =
      let l = first_layers ps c in
      around_keeps ps l.0 at (walk a l.1).0 (walk a l.1).1 (walk_keeps a l.1 (first_keeps ps c h))

  patterns_keep : (qs : List PlainPattern) (c : Counts) → Q c.conditions → Q (walk_patterns qs c).1.conditions
  patterns_keep [] c h = h
  patterns_keep (q ∷ qs) c h = patterns_keep qs (walk q.plain c).1 (walk_keeps q.plain c h)

  value_keeps : (v : PlainValue) (c : Counts) → Q c.conditions → Q (walk_value v c).1.conditions
  value_keeps (p.Expression e) c h = walk_keeps e c h
  value_keeps (p.Scanner qs at) c h = patterns_keep qs c h

  by_case : (b : Bool) (cs : List ActionId) (m : Meaning) → Q cs → Q (cond b (conditions_behind cs m) cs)
  by_case true cs m h = value_keeps m.value (begun cs) h
  by_case false cs m h = h

  all_keep : (cs : List ActionId) (ms : List Meaning) → Q cs → Q (all_conditions cs ms)
  all_keep cs [] h = h
  all_keep cs (m ∷ ms) h = all_keep (conditions_by cs m) ms (by_case (is_entry m.sign) cs m h)

-- ---- no condition twice

abbrev numbers : List ActionId → List ℕ
numbers cs = map (λ (a : ActionId). a.0) cs

in_more : (y : ℕ) (c : ActionId) (cs : List ActionId) (x : ActionId) → In y (numbers cs) ⊎ (x.0 ≡ y) → In y (numbers (c ∷ cs)) ⊎ (x.0 ≡ y)
in_more y c cs x (inl e) = inl (inr e)
in_more y c cs x (inr e) = inr e

split : {A B : Type 0} → A ⊎ B → (A → ⊥) → (B → ⊥) → ⊥
split (inl a) f g = f a
split (inr b) f g = g b

in_pushed : (y : ℕ) (cs : List ActionId) (x : ActionId) → In y (numbers (cs ++ x ∷ [])) → In y (numbers cs) ⊎ (x.0 ≡ y)
in_pushed y [] x (inl e) = inr e
in_pushed y [] x (inr e) = absurd e
in_pushed y (c ∷ cs) x (inl e) = inl (inl e)
in_pushed y (c ∷ cs) x (inr e) = in_more y c cs x (in_pushed y cs x e)

others : (a b : ℕ) → nat_eq a b ≡ false → b ≡ a → ⊥
others a b e h = grind (arith, nat_tests)

not_pushed : (y : ℕ) (cs : List ActionId) (x : ActionId) → (In y (numbers cs) → ⊥) → nat_eq y x.0 ≡ false → In y (numbers (cs ++ x ∷ [])) → ⊥
not_pushed y cs x h e k = split (in_pushed y cs x k) h (others y x.0 e)

all_before : (b : Bool) (k m : ℕ) → cond (not b) (1 + k) 0 ≡ suc m → (b ≡ false) × (k ≡ m)
all_before true k m e = absurd (omega arith)
all_before false k m e = (refl, omega arith)

differ_pushed : (cs : List ActionId) (x : ActionId) → conditions_before x cs ≡ length cs → AreDifferent (numbers cs) → AreDifferent (numbers (cs ++ x ∷ []))
differ_pushed [] x h d = (λ e. e, tt)
differ_pushed (c ∷ cs) x h d =
    let b = all_before (nat_eq c.0 x.0) (conditions_before x cs) (length cs) h in
    (not_pushed c.0 cs x d.0 b.0, differ_pushed cs x b.1 d.1)

same_number : (a b : ℕ) → nat_eq a b ≡ true → a ≡ b
same_number a b e = grind (arith, nat_tests)

pushed_case : (e f : Bool) (cs : List ActionId) (x : ActionId) → nat_eq (conditions_before x cs) (length cs) ≡ e → AreDifferent (numbers cs) → AreDifferent (numbers (cond (e && f) (cs ++ x ∷ []) cs))
pushed_case true true cs x h d = differ_pushed cs x (same_number (conditions_before x cs) (length cs) h) d
pushed_case true false cs x h d = d
pushed_case false f cs x h d = d

keeps_different : (x : ActionId) (c : Counts) → AreDifferent (numbers c.conditions) → AreDifferent (numbers (with_condition x c).conditions)
keeps_different x c d = pushed_case (nat_eq (conditions_before x c.conditions) (length c.conditions)) (nat_lt (length c.conditions) 9) c.conditions x refl d

pub conditions_differ : (ms : List Meaning) → AreDifferent (numbers (all_conditions [] ms))
conditions_differ ms = all_keep (λ cs. AreDifferent (numbers cs)) keeps_different [] ms tt

-- ---- all entries

by_grows : (b : Bool) (cs : List ActionId) (m : Meaning) → length cs ≤ length (cond b (conditions_behind cs m) cs)
by_grows true cs m = root_grows m.value (begun cs)
by_grows false cs m = omega arith

all_grow : (cs : List ActionId) (ms : List Meaning) → length cs ≤ length (all_conditions cs ms)
all_grow cs [] = omega arith
all_grow cs (m ∷ ms) = omega (arith, by_grows (is_entry m.sign) cs m, all_grow (conditions_by cs m) ms)

-- its conditions have numbers up to this one
abbrev HasKnown : ℕ → Made → Type 0
HasKnown count x = All (IsNumber count) (flat_map conditions_in (trees_of x.root))

made_known : (b : Bool) (cs : List ActionId) (m : Meaning) (count : ℕ) → length (cond b (conditions_behind cs m) cs) ≤ count → count ≤ 8 → All (HasKnown count) (cond b (entry cs m ∷ []) [])
made_known true cs m count h g =
    let x = walk_value m.value (begun cs) in
    All-cons (HasKnown count) (entry cs m) []
    (All-weaker (λ s. (1 ≤ s) × (s ≤ length x.1.conditions)) (IsNumber count) (λ s e. (e.0, omega (arith, e.1, h))) (flat_map conditions_in (trees_of x.0.root)) (root_conditions m.value (begun cs) (omega (arith, h, g))))
    (All-nil (HasKnown count))
made_known false cs m count h g = All-nil (HasKnown count)

entries_known : (cs : List ActionId) (ms : List Meaning) (count : ℕ) → length (all_conditions cs ms) ≤ count → count ≤ 8 → All (HasKnown count) (entries cs ms)
entries_known cs [] count h g = All-nil (HasKnown count)
entries_known cs (m ∷ ms) count h g =
    All-append (HasKnown count) (made_by cs m) (entries (conditions_by cs m) ms)
    (made_known (is_entry m.sign) cs m count (omega (arith, h, all_grow (conditions_by cs m) ms)) g) (entries_known (conditions_by cs m) ms count h g)

pub all_known : (ms : List Meaning) → length (all_conditions [] ms) ≤ 8 → All (HasKnown (length (all_conditions [] ms))) (entries [] ms)
all_known ms h = entries_known [] ms (length (all_conditions [] ms)) (omega arith) h
