-- The tables that stay after a cut agree, and their places.
use Rattle.std.proofs.Common.{◌≡◌, ℕ, ℤ, ◌+◌, Bool, true, false, cond, not, List, [], ◌∷◌, ◌++◌, ◌⊎◌, inl, inr, map, length, get_or, nat_eq, refl, sym, ◌∙◌, ap, subst, append_assoc, Ordering, Option, Some, None, true≢false}
use Rattle.std.specs.declared.cmp.Ordering.TheVariants.{Less, Equal, Greater}
use Rattle.std.specs.Ordering.{nat_cmp, int_cmp, match_ordering, ordering_reverse}
use Rattle.std.proofs.lemmas.List.{length_push}
use Rattle.std.proofs.Math.Seq.{get_or-append_seam}
use Rattle.std.proofs.lemmas.Bool.{eq-eqb}
use Rattle.std.specs.List.{filter, enumerate_from}
use Rattle.rl_sets.specs.Sets.{In, joined, Below}
use Rattle.rl_sets.proofs.SetLaws.{any_true, In-append_cases, In-append_left, In-append_right, In-filter_from, same_joined}
use Rattle.rl_sets.proofs.OrderLaws.{int_order}
use Rattle.rl_labels.specs.declared.priors.Prior.{Prior}
use Rattle.rl_labels.specs.Labels.{name_cmp, IsTable, entry_at, by_value, beats, is_beaten}
use Rattle.rl_labels.specs.LabelLaws.{Agree, CutGivesSurvivors, SurvivorsAgree, SurvivorsLeadAlike, OrderIsFree}
use Rattle.rl_labels.proofs.Leads.{lead-table_of}
use Rattle.rl_labels.proofs.TableLaws.{below_trans, below_named, equal_name, turned_name, same_number, less, apart_names, table_of-same}

-- ---- values that agree

abbrev value_or : ℤ → Option Prior → ℤ
value_or d None = d
value_or d (Some p) = p.value

some_value : (p q : Prior) → Some p ≡ Some q → p.value ≡ q.value
some_value p q e = ap (value_or p.value) e

no_some : {P : Type 0} (q : Prior) → None ≡ Some q → P
no_some q e = absurd (subst (λ (o : Option Prior). elim o as (λ _. Type 0) [ None ↦ Unit {0} | Some r ↦ ⊥ ]) e tt)

agree_sym : (t u : List Prior) → Agree t u → Agree u t
agree_sym t u a n p q f g = sym (a n q p g f)

-- a first entry whose name the other table has not
agree_first : (p : Prior) (t u : List Prior) → Below name_cmp p u → Agree t u → Agree (p ∷ t) u
agree_first p t u b a n x y f g =
    (elim (nat_eq p.name n) as (λ c. nat_eq p.name n ≡ c → cond c (Some p) (entry_at n t) ≡ Some x → x.value ≡ y.value) [
      | true ↦ λ e h. no_some y (sym (equal_name p n u b e) ∙ g)
      | false ↦ λ e h. a n x y h g
    ]) refl f

-- two first entries of one name and one value
agree_both : (p q : Prior) (t u : List Prior) → p.name ≡ q.name → p.value ≡ q.value → Agree t u → Agree (p ∷ t) (q ∷ u)
agree_both p q t u one v a n x y f g =
    (elim (nat_eq q.name n) as (λ c. cond c (Some p) (entry_at n t) ≡ Some x → cond c (Some q) (entry_at n u) ≡ Some y → x.value ≡ y.value) [
      | true ↦ λ h k. sym (some_value p x h) ∙ v ∙ some_value q y k
      | false ↦ λ h k. a n x y h k
    ]) (subst (λ m. cond (nat_eq m n) (Some p) (entry_at n t) ≡ Some x) one f) g

-- ---- what beats, without a first entry

-- a first entry whose name the one table has not decides nothing for it
beats_rest : (p : Prior) (t u : List Prior) → Below name_cmp p u → beats u (p ∷ t) ≡ beats u t
beats_rest p t [] b = refl
beats_rest p t (r ∷ u) b =
    ap (λ c. by_value r (cond c (Some p) (entry_at r.name t)) (beats u (p ∷ t))) (differs p r b.0)
    ∙ ap (by_value r (entry_at r.name t)) (beats_rest p t u b.1)
  where
    differs : (p r : Prior) → name_cmp p r ≡ Less → nat_eq p.name r.name ≡ false
    differs p r e = apart_names p.name r.name (less p.name r.name e)

rest_beats : (p : Prior) (t u : List Prior) → Below name_cmp p u → beats (p ∷ t) u ≡ beats t u
rest_beats p t u b = ap (λ o. by_value p o (beats t u)) (equal_name p p.name u b (eq-eqb p.name p.name refl))

-- ---- two tables that do not beat each other agree

abbrev Quiet : List Prior → List Prior → Type 0
Quiet t u = IsTable t → IsTable u → beats t u ≡ false → beats u t ≡ false → Agree t u

by_values : (r s : Ordering) (a b : Bool) → s ≡ ordering_reverse r → match_ordering r false a true ≡ false → match_ordering s false b true ≡ false
    → (r ≡ Equal) × (a ≡ false) × (b ≡ false)
by_values Less s a b e f g = absurd (true≢false (sym (ap (λ o. match_ordering o false b true) e) ∙ g))
by_values Equal s a b e f g = (refl, f, sym (ap (λ o. match_ordering o false b true) e) ∙ g)
by_values Greater s a b e f g = absurd (true≢false f)

quiet_equal : (p q : Prior) (t u : List Prior) → nat_cmp p.name q.name ≡ Equal → Quiet t u → Quiet (p ∷ t) (q ∷ u)
quiet_equal p q t u e ih a b f g =
    let one : p.name ≡ q.name = same_number p.name q.name e in
    let under_t : Below name_cmp q t = below_named p q t one a.0 in
    let under_u : Below name_cmp p u = below_named q p u (sym one) b.0 in
    let v = by_values (int_cmp p.value q.value) (int_cmp q.value p.value) (beats t (q ∷ u)) (beats u (p ∷ t)) (int_order.total.antisymm q.value p.value)
    (sym (ap (λ c. by_value p (cond c (Some q) (entry_at p.name u)) (beats t (q ∷ u))) (eq-eqb q.name p.name (sym one))) ∙ f)
    (sym (ap (λ c. by_value q (cond c (Some p) (entry_at q.name t)) (beats u (p ∷ t))) (eq-eqb p.name q.name one)) ∙ g) in
    agree_both p q t u one (int_order.same p.value q.value v.0)
    (ih a.1 b.1 (sym (beats_rest q u t under_t) ∙ v.1) (sym (beats_rest p t u under_u) ∙ v.2))

quiet_less : (p q : Prior) (t u : List Prior) → nat_cmp p.name q.name ≡ Less → Quiet t (q ∷ u) → Quiet (p ∷ t) (q ∷ u)
quiet_less p q t u e ih a b f g =
    let under : Below name_cmp p (q ∷ u) = (e, below_trans p q u e b.0) in
    agree_first p t (q ∷ u) under (ih a.1 b (sym (rest_beats p t (q ∷ u) under) ∙ f) (sym (beats_rest p t (q ∷ u) under) ∙ g))

quiet_greater : (p q : Prior) (t u : List Prior) → nat_cmp p.name q.name ≡ Greater → Quiet (p ∷ t) u → Quiet (p ∷ t) (q ∷ u)
quiet_greater p q t u e ih a b f g =
    let under : Below name_cmp q (p ∷ t) = (turned_name p q e, below_trans q p t (turned_name p q e) a.0) in
    agree_sym (q ∷ u) (p ∷ t) (agree_first q u (p ∷ t) under (agree_sym (p ∷ t) u
    (ih a b.1 (sym (beats_rest q u (p ∷ t) under) ∙ f) (sym (rest_beats q u (p ∷ t) under) ∙ g))))

quiet_more : (p : Prior) (t : List Prior) → ((u : List Prior) → Quiet t u) → (u : List Prior) → Quiet (p ∷ t) u
quiet_more p t ih [] = λ a b f g n x y h k. no_some y k
quiet_more p t ih (q ∷ u) =
    (elim (nat_cmp p.name q.name) as (λ o. nat_cmp p.name q.name ≡ o → Quiet (p ∷ t) (q ∷ u)) [
      | Less ↦ λ e. quiet_less p q t u e (ih (q ∷ u))
      | Equal ↦ λ e. quiet_equal p q t u e (ih u)
      | Greater ↦ λ e. quiet_greater p q t u e (quiet_more p t ih u)
    ]) refl

quiet : (t u : List Prior) → Quiet t u
quiet [] u = λ a b f g n x y h k. no_some x h
quiet (p ∷ t) u = quiet_more p t (quiet t) u

-- ---- survivors

not_true : (b : Bool) → not b ≡ true → b ≡ false
not_true true e = absurd (true≢false (sym e))
not_true false e = refl

beats_not : (tables : List (List Prior)) (t u : List Prior) → In u tables → not (is_beaten tables t) ≡ true → beats u t ≡ false
beats_not tables t u i e =
    (elim (beats u t) as (λ b. beats u t ≡ b → b ≡ false) [
      | true ↦ λ f. sym (any_true (λ w. beats w t) u tables i f) ∙ not_true (is_beaten tables t) e
      | false ↦ λ f. refl
    ]) refl

pub survivors_agree : SurvivorsAgree
survivors_agree tables t u a b i j =
    let from_t = In-filter_from (λ w. not (is_beaten tables w)) t tables i in
    let from_u = In-filter_from (λ w. not (is_beaten tables w)) u tables j in
    quiet t u a b (beats_not tables u t from_t.0 from_u.1) (beats_not tables t u from_u.0 from_t.1)

pub survivors_lead_alike : SurvivorsLeadAlike
survivors_lead_alike tables t u a b i j =
    let agree : Agree t u = survivors_agree tables t u a b i j in (
      lead-table_of t u a b agree,
      lead-table_of u t b a (agree_sym t u agree) ∙ table_of-same (u ++ t) (t ++ u) (record { to = λ x h. either x u t h; back = λ x h. either x t u h }),
    )
  where
    either : (x : Prior) (xs ys : List Prior) → In x (xs ++ ys) → In x (ys ++ xs)
    either x xs ys h = let r : In x xs ⊎ In x ys = In-append_cases x xs ys h in elim r [ inl k ↦ In-append_right x ys xs k | inr k ↦ In-append_left x ys xs k ]

-- ---- their places

at_places : (test : List Prior → Bool) (before rest whole : List (List Prior)) (n : ℕ) → whole ≡ before ++ rest → n ≡ length before
    → map (λ k. get_or whole k []) (map (λ at. at.0) (filter (λ at. test at.1) (enumerate_from n rest))) ≡ filter test rest
at_places test before [] whole n e l = refl
at_places test before (t ∷ rest) whole n e l =
    let here : get_or whole n [] ≡ t = (λ i. get_or (e i) (l i) []) ∙ get_or-append_seam before t rest [] in
    let ih = at_places test (before ++ t ∷ []) rest whole (n + 1) (e ∙ sym (append_assoc before (t ∷ []) rest)) (ap (λ m. m + 1) l ∙ sym (length_push before t)) in
    elim (test t) as (λ b. map (λ k. get_or whole k []) (map (λ at. at.0) (cond b ((n, t) ∷ filter (λ at. test at.1) (enumerate_from (n + 1) rest)) (filter (λ at. test at.1) (enumerate_from (n + 1) rest))))
    ≡ cond b (t ∷ filter test rest) (filter test rest)) [
      | true ↦ λ i. here i ∷ ih i
      | false ↦ ih
    ]

pub cut_gives_survivors : CutGivesSurvivors
cut_gives_survivors tables = at_places (λ t. not (is_beaten tables t)) [] tables tables 0 refl refl

-- ---- the order is free

pub order_is_free : OrderIsFree
order_is_free ts us s = table_of-same (joined ts) (joined us) (same_joined ts us (record { to = λ t. (s t).0; back = λ t. (s t).1 }))
