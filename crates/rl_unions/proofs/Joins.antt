-- Candidates without priorities: none is cut, and how they are grouped does not matter.
use Rattle.std.proofs.Common.{◌≡◌, ℕ, Bool, true, false, ◌||◌, List, [], ◌∷◌, ◌++◌, append_assoc, refl, sym, ◌∙◌, ap, subst, Option, Some, None, option_map, bit_or, max, arith}
use Rattle.std.specs.Int.{bit_at}
use Rattle.std.proofs.lemmas.Nat.Bits.{same_from_bits, bit_at_or}
use Rattle.rl_types.specs.declared.numbers.Letter.{Letter}
use Rattle.rl_labels.specs.declared.stamped.Stamp.{Stamp}
use Rattle.rl_labels.specs.declared.carry.Carry.{Carry}
use Rattle.rl_labels.specs.Labels.{stamps_of}
use Rattle.rl_labels.specs.Carries.{both_of}
use Rattle.rl_labels.proofs.LabelOrders.{stamp_order}
use Rattle.rl_sets.specs.Sets.{joined}
use Rattle.rl_sets.proofs.SetLaws.{Same, same_refl, same_sym, same_trans, same_append, same_set_of, set_of-same}
use Rattle.rl_automata.specs.declared.moves.Move.{Move}
use Rattle.rl_automata.specs.Auto.{Auto, on_part, first, listed, settle, jams, union_auto, both_jams, part_moves}
use Rattle.rl_automata.specs.Follows.{renamed}
use Rattle.rl_unions.proofs.Calm.{IsBare, IsCalm, both_bare}

-- ---- sets of actions

nil_right : {X : Type 0} (xs : List X) → xs ++ [] ≡ xs
nil_right [] = refl
nil_right (x ∷ xs) = λ i. x ∷ nil_right xs i

joined_append : (xss yss : List (List Stamp)) → joined (xss ++ yss) ≡ joined xss ++ joined yss
joined_append [] yss = refl
joined_append (xs ∷ xss) yss = ap (λ w. xs ++ w) (joined_append xss yss) ∙ sym (append_assoc xs (joined xss) (joined yss))

-- the set of these sets together
abbrev all_in : List (List Stamp) → List Stamp
all_in xss = stamps_of (joined xss)

nest_left : (xss yss : List (List Stamp)) → all_in (all_in xss ∷ yss) ≡ all_in (xss ++ yss)
nest_left xss yss =
    set_of-same stamp_order (all_in xss ++ joined yss) (joined (xss ++ yss))
    (subst (λ w. Same (all_in xss ++ joined yss) w) (sym (joined_append xss yss))
    (same_append (all_in xss) (joined xss) (joined yss) (joined yss) (same_set_of stamp_order (joined xss)) (same_refl (joined yss))))

nest_right : (xs : List Stamp) (yss : List (List Stamp)) → all_in (xs ∷ all_in yss ∷ []) ≡ all_in (xs ∷ yss)
nest_right xs yss =
    set_of-same stamp_order (xs ++ (all_in yss ++ [])) (xs ++ joined yss)
    (same_append xs xs (all_in yss ++ []) (joined yss) (same_refl xs)
    (subst (λ w. Same w (joined yss)) (sym (nil_right (all_in yss))) (same_set_of stamp_order (joined yss))))

pub marks_grouped : (xs ys zs : List Stamp) → stamps_of (xs ++ stamps_of (ys ++ zs)) ≡ stamps_of (stamps_of (xs ++ ys) ++ zs)
marks_grouped xs ys zs =
    set_of-same stamp_order (xs ++ stamps_of (ys ++ zs)) (stamps_of (xs ++ ys) ++ zs)
    (same_trans (same_append xs xs (stamps_of (ys ++ zs)) (ys ++ zs) (same_refl xs) (same_set_of stamp_order (ys ++ zs)))
    (subst (λ w. Same w (stamps_of (xs ++ ys) ++ zs)) (append_assoc xs ys zs)
    (same_append (xs ++ ys) (stamps_of (xs ++ ys)) zs zs (same_sym (same_set_of stamp_order (xs ++ ys))) (same_refl zs))))

-- ---- what is carried

pub outs_grouped : (x y z : Carry) → IsBare x → IsBare y → IsBare z → both_of x (both_of y z) ≡ both_of (both_of x y) z
outs_grouped x y z p q r = λ i. record {
  actions = (nest_right x.actions (y.actions ∷ z.actions ∷ []) ∙ sym (nest_left (x.actions ∷ y.actions ∷ []) (z.actions ∷ []))) i;
  table = (both_bare x (both_of y z) p (both_bare y z q r) ∙ sym (both_bare (both_of x y) z (both_bare x y p q) r)) i;
}

max_max : (a b c : ℕ) → max (max a b) c ≡ max a (max b c)
max_max a b c = omega arith

pub asks_grouped : (a b c : ℕ) → bit_or a (bit_or b c) ≡ bit_or (bit_or a b) c
asks_grouped a b c = sym (same_from_bits _ _ (λ i. bit_at_or (bit_or a b) c i ∙ ap (λ w. max w (bit_at c i)) (bit_at_or a b i) ∙ max_max _ _ _
    ∙ sym (bit_at_or a (bit_or b c) i ∙ ap (max (bit_at a i)) (bit_at_or b c i))))

pub tests_grouped : (a b c : Bool) → (a || (b || c)) ≡ ((a || b) || c)
tests_grouped true b c = refl
tests_grouped false b c = refl

-- ---- candidates

abbrev pub part_step : {S : Type 0} → Auto S → Letter → Option S → Option (Move S)
part_step A l c = on_part None (λ s. A.step s l) c

moves_listed : {S : Type 0} (A : Auto S) (l : Letter) (c : Option S) → part_moves A l c ≡ listed (part_step A l c)
moves_listed A l None = refl
moves_listed A l (Some s) = refl

-- the same step without its table
abbrev pub bare : {S : Type 0} → Move S → Move S
bare m = record { to = m.to; carry = record { actions = m.carry.actions; table = [] } }

abbrev pub IsBareStep : {S : Type 0} → Option (Move S) → Type 0
IsBareStep {S} o = (m : Move S) → o ≡ Some m → IsBare m.carry

bare_itself : {S : Type 0} (o : Option (Move S)) → IsBareStep o → o ≡ option_map bare o
bare_itself None h = refl
bare_itself (Some m) h = λ i. Some (record { to = m.to; carry = record { actions = m.carry.actions; table = h m refl i } })

pub part_bare_step : {S : Type 0} (A : Auto S) → IsCalm A → (l : Letter) (c : Option S) → IsBareStep (part_step A l c)
part_bare_step A F l None m e = absurd_none m e
  where
    absurd_none : {S P : Type 0} (m : Move S) → None ≡ Some m → P
    absurd_none m e = absurd (subst (λ o. elim o as (λ _. Type 0) [ None ↦ Unit {0} | Some n ↦ ⊥ ]) e tt)
part_bare_step A F l (Some s) m e = F.step s l m e

-- what two candidates, where they are there, make together
abbrev pub meet : {S T : Type 0} → Option (Move S) → Option (Move T) → Option (Move (Option S × Option T))
meet p q = settle (λ ss ts. (first ss, first ts)) (listed p) (listed q)

module _ {S T : Type 0} (A : Auto S) (B : Auto T) where
  pub union_step : (c : Option S × Option T) (l : Letter) → (union_auto A B).step c l ≡ meet (part_step A l c.0) (part_step B l c.1)
  union_step c l = λ i. settle (λ ss ts. (first ss, first ts)) (moves_listed A l c.0 i) (moves_listed B l c.1 i)

  module _ (F : IsCalm A) (G : IsCalm B) where
    pub calm_jams : (c : Option S × Option T) (l : Letter) → both_jams A B c l ≡ false
    calm_jams c l =
        (λ i. jams (moves_listed A l c.0 i) (moves_listed B l c.1 i))
        ∙ (λ i. jams (listed (bare_itself (part_step A l c.0) (part_bare_step A F l c.0) i)) (listed (bare_itself (part_step B l c.1) (part_bare_step B G l c.1) i)))
        ∙ none (part_step A l c.0) (part_step B l c.1)
      where
        none : (p : Option (Move S)) (q : Option (Move T)) → jams (listed (option_map bare p)) (listed (option_map bare q)) ≡ false
        none None None = refl
        none None (Some n) = refl
        none (Some m) None = refl
        none (Some m) (Some n) = refl

    -- the union steps wherever the first operand does, and there its part goes along
    pub goes_along : (s : S) (y : Option T) (l : Letter) (m : Move S) → A.step s l ≡ Some m → (z : Option T) × (x : Carry) × ((union_auto A B).step (Some s, y) l ≡ Some (record { to = (Some m.to, z); carry = x }))
    goes_along s y l m e =
        let r = by (part_step B l y) in (
          r.0,
          r.1,
          union_step (Some s, y) l ∙ (λ i. meet (e i) (part_step B l y))
              ∙ (λ i. meet (bare_itself (Some m) (λ n p. F.step s l n (e ∙ p)) i) (bare_itself (part_step B l y) (part_bare_step B G l y) i)) ∙ r.2,
        )
      where
        by : (q : Option (Move T)) → (z : Option T) × (x : Carry) × (meet (Some (bare m)) (option_map bare q) ≡ Some (record { to = (Some m.to, z); carry = x }))
        by None = (None, _, refl)
        by (Some n) = (Some n.to, _, refl)

-- ---- three of them

-- both of two parts; none where neither is there
abbrev pub pack : {S T : Type 0} → Option S → Option T → Option (Option S × Option T)
pack None None = None
pack None (Some y) = Some (None, Some y)
pack (Some x) y = Some (Some x, y)

abbrev pub left_of : {S T : Type 0} → Option (Option S × Option T) → Option S
left_of w = on_part None (λ c. c.0) w

abbrev pub right_of : {S T : Type 0} → Option (Option S × Option T) → Option T
right_of w = on_part None (λ c. c.1) w

abbrev pub regroup : {S T U : Type 0} → Option S × Option (Option T × Option U) → Option (Option S × Option T) × Option U
regroup c = (pack c.0 (left_of c.1), right_of c.1)

module _ {S T U : Type 0} where
  regrouped_bare : (p : Option (Move S)) (q : Option (Move T)) (r : Option (Move U))
      → option_map (renamed regroup) (meet (option_map bare p) (meet (option_map bare q) (option_map bare r))) ≡ meet (meet (option_map bare p) (option_map bare q)) (option_map bare r)
  regrouped_bare None None None = refl
  regrouped_bare None None (Some o) = λ i. Some (record { to = (None, Some o.to); carry = record { actions = nest_left (o.carry.actions ∷ []) [] i; table = [] } })
  regrouped_bare None (Some n) None = refl
  regrouped_bare None (Some n) (Some o) = λ i. Some (record {
    to = (Some (None, Some n.to), Some o.to);
    carry = record { actions = (nest_left (n.carry.actions ∷ o.carry.actions ∷ []) [] ∙ sym (nest_left (n.carry.actions ∷ []) (o.carry.actions ∷ []))) i; table = [] };
  })
  regrouped_bare (Some m) None None = λ i. Some (record { to = (Some (Some m.to, None), None); carry = record { actions = sym (nest_left (m.carry.actions ∷ []) []) i; table = [] } })
  regrouped_bare (Some m) None (Some o) = λ i. Some (record {
    to = (Some (Some m.to, None), Some o.to);
    carry = record { actions = (nest_right m.carry.actions (o.carry.actions ∷ []) ∙ sym (nest_left (m.carry.actions ∷ []) (o.carry.actions ∷ []))) i; table = [] };
  })
  regrouped_bare (Some m) (Some n) None = λ i. Some (record {
    to = (Some (Some m.to, Some n.to), None);
    carry = record { actions = (nest_right m.carry.actions (n.carry.actions ∷ []) ∙ sym (nest_left (m.carry.actions ∷ n.carry.actions ∷ []) [])) i; table = [] };
  })
  regrouped_bare (Some m) (Some n) (Some o) = λ i. Some (record {
    to = (Some (Some m.to, Some n.to), Some o.to);
    carry = record {
      actions = (nest_right m.carry.actions (n.carry.actions ∷ o.carry.actions ∷ []) ∙ sym (nest_left (m.carry.actions ∷ n.carry.actions ∷ []) (o.carry.actions ∷ []))) i;
      table = [];
    };
  })

  pub meets_grouped : (p : Option (Move S)) (q : Option (Move T)) (r : Option (Move U)) → IsBareStep p → IsBareStep q → IsBareStep r → option_map (renamed regroup) (meet p (meet q r)) ≡ meet (meet p q) r
  meets_grouped p q r f g h =
      let a = bare_itself p f in
      let b = bare_itself q g in
      let c = bare_itself r h in
      (λ i. option_map (renamed regroup) (meet (a i) (meet (b i) (c i)))) ∙ regrouped_bare p q r ∙ (λ i. meet (meet (sym a i) (sym b i)) (sym c i))
