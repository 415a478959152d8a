-- Of two tables that agree, the one put over the other is the table of the entries of both.
use Rattle.std.proofs.Common.{◌≡◌, ℕ, ◌<◌, ◌≤◌, Bool, true, false, cond, not, ◌&&◌, ◌||◌, List, [], ◌∷◌, ◌++◌, ◌⊎◌, nat_eq, nat_lt, refl, sym, ◌∙◌, ap, subst, inl, inr, arith, Option, Some, None, true≢false}
use Rattle.std.specs.declared.cmp.Ordering.TheVariants.{Less, Equal, Greater}
use Rattle.std.specs.Ordering.{nat_cmp, int_cmp, ordering_then, is_gt}
use Rattle.std.specs.Cmp.{nat_cmp_is}
use Rattle.std.proofs.lemmas.Cmp.{ranked}
use Rattle.std.proofs.lemmas.Bool.{eqb-true, eq-eqb, ltb-true, ltb-false}
use Rattle.std.specs.List.{list_any}
use Rattle.rl_sets.specs.Sets.{In, Below, Ascends, set_of}
use Rattle.rl_sets.proofs.SetLaws.{any_true, In-append_left, In-append_right, In-append_cases, In-filter, In-filter_from, In-set_of, In-set_of_from, ascending_same}
use Rattle.rl_sets.proofs.OrderLaws.{ties}
use Rattle.rl_labels.specs.declared.priors.Prior.{Prior}
use Rattle.rl_labels.specs.Labels.{prior_cmp, name_cmp, outranks, table_of, IsTable, newer, lead, leading, entry_at}
use Rattle.rl_labels.specs.LabelLaws.{Agree}
use Rattle.rl_labels.proofs.LabelOrders.{prior_order}
use Rattle.rl_labels.proofs.TableLaws.{less, apart_names, IsTable-lead, IsTable-table_of, lead_at}

-- ---- an entry and its name in a table

some_is : (p q : Prior) → Some p ≡ Some q → p ≡ q
some_is p q e = ap (λ (o : Option Prior). elim o as (λ _. Prior) [ None ↦ p | Some r ↦ r ]) e

no_some : {P : Type 0} (q : Prior) → None ≡ Some q → P
no_some q e = absurd (subst (λ (o : Option Prior). elim o as (λ _. Type 0) [ None ↦ Unit {0} | Some r ↦ ⊥ ]) e tt)

below_in : (p q : Prior) (t : List Prior) → Below name_cmp p t → In q t → name_cmp p q ≡ Less
below_in p q [] b h = absurd h
below_in p q (r ∷ t) b (inl e) = subst (λ (w : Prior). name_cmp p w ≡ Less) e b.0
below_in p q (r ∷ t) b (inr h) = below_in p q t b.1 h

in_at : (p : Prior) (t : List Prior) → IsTable t → In p t → entry_at p.name t ≡ Some p
in_at p [] a h = absurd h
in_at p (q ∷ t) a (inl e) = ap (λ c. cond c (Some q) (entry_at p.name t)) (eq-eqb q.name p.name (λ i. (e i).name)) ∙ ap Some e
in_at p (q ∷ t) a (inr h) =
    ap (λ c. cond c (Some q) (entry_at p.name t)) (apart_names q.name p.name (less q.name p.name (below_in q p t a.0 h))) ∙ in_at p t a.1 h

at_in : (n : ℕ) (p : Prior) (t : List Prior) → entry_at n t ≡ Some p → In p t × (p.name ≡ n)
at_in n p [] e = no_some p e
at_in n p (q ∷ t) e =
    (elim (nat_eq q.name n) as (λ c. nat_eq q.name n ≡ c → cond c (Some q) (entry_at n t) ≡ Some p → In p (q ∷ t) × (p.name ≡ n)) [
      | true ↦ λ f g. (inl (some_is q p g), subst (λ (w : Prior). w.name ≡ n) (some_is q p g) (eqb-true q.name n f))
      | false ↦ λ f g. let r = at_in n p t g in (inr r.0, r.1)
    ]) refl e

-- an entry of this name is the one that is found
found : (p r : Prior) (t : List Prior) (o : Option Prior) → IsTable t → entry_at p.name t ≡ o → In r t → r.name ≡ p.name → Some r ≡ o
found p r t o a e i n = sym (in_at r t a i) ∙ ap (λ m. entry_at m t) n ∙ e

ascends_prior : (t : List Prior) → IsTable t → Ascends prior_cmp t
ascends_prior [] a = tt
ascends_prior (p ∷ t) a = (below p t a.0, ascends_prior t a.1)
  where
    below : (p : Prior) (t : List Prior) → Below name_cmp p t → Below prior_cmp p t
    below p [] b = tt
    below p (q ∷ t) b = (ap (λ o. ordering_then o (ordering_then (nat_cmp p.stamp q.stamp) (int_cmp p.value q.value))) b.0, below p t b.1)

-- ---- which of two outranks

lower_stamp : (p q : Prior) → q.name ≡ p.name → q.stamp < p.stamp → prior_cmp q p ≡ Less
lower_stamp p q n h = λ i. ordering_then (sym (nat_cmp_is q.name p.name Equal n) i) (ordering_then (sym (nat_cmp_is q.stamp p.stamp Less h) i) (int_cmp q.value p.value))

and_false : (b : Bool) → (b && false) ≡ false
and_false true = refl
and_false false = refl

not_outranked : (p q : Prior) → q.name ≡ p.name → (q.stamp < p.stamp) ⊎ (q ≡ p) → outranks p q ≡ false
not_outranked p q n (inl h) = ap (λ o. nat_eq q.name p.name && is_gt o) (lower_stamp p q n h) ∙ and_false (nat_eq q.name p.name)
not_outranked p q n (inr e) =
    ap (λ o. nat_eq q.name p.name && is_gt o) (ap (λ w. prior_cmp w p) e ∙ ties prior_order p) ∙ and_false (nat_eq q.name p.name)

later_outranks : (p q : Prior) → q.name ≡ p.name → p.stamp < q.stamp → outranks p q ≡ true
later_outranks p q n h =
    λ i. eq-eqb q.name p.name n i && is_gt (ordering_then (sym (nat_cmp_is q.name p.name Equal n) i) (ordering_then (sym (nat_cmp_is q.stamp p.stamp Greater h) i) (int_cmp q.value p.value)))

-- of one name and one value, and no greater stamp
no_higher : (p q : Prior) → q.name ≡ p.name → q.value ≡ p.value → q.stamp ≤ p.stamp → (q.stamp < p.stamp) ⊎ (q ≡ p)
no_higher p q n v h =
    (elim (nat_cmp q.stamp p.stamp) as (λ o. nat_cmp q.stamp p.stamp ≡ o → (q.stamp < p.stamp) ⊎ (q ≡ p)) [
      | Less ↦ λ e. inl (ranked q.stamp p.stamp Less (sym e))
      | Equal ↦ λ e. let s : q.stamp ≡ p.stamp = ranked q.stamp p.stamp Equal (sym e) in inr (λ i. record { name = n i; stamp = s i; value = v i })
      | Greater ↦ λ e. let g : p.stamp < q.stamp = ranked q.stamp p.stamp Greater (sym e) in absurd (omega arith)
    ]) refl

-- ---- what leads under its name

record Leads (t u : List Prior) (p : Prior) : Type 0 where
  stands : In p t ⊎ In p u
  over_first : (r : Prior) → In r t → r.name ≡ p.name → outranks p r ≡ false
  over_second : (r : Prior) → In r u → r.name ≡ p.name → outranks p r ≡ false

module _ (t u : List Prior) (a : IsTable t) (b : IsTable u) (agree : Agree t u) where
  both_have : (p q r : Prior) → entry_at p.name t ≡ Some q → entry_at p.name u ≡ Some r → Some (newer q r) ≡ Some p → Leads t u p
  both_have p q r e f g =
      let q_in = at_in p.name q t e in
      let r_in = at_in p.name r u f in
      let v : q.value ≡ r.value = agree p.name q r e f in
      (elim (nat_lt q.stamp r.stamp) as (λ c. nat_lt q.stamp r.stamp ≡ c → Some (cond c r q) ≡ Some p → Leads t u p) [
        | true ↦ λ l h.
            let is : r ≡ p = some_is r p h in
            record {
              stands = inr (subst (λ w. In w u) is r_in.0);
              over_first = λ x i n. let y : x ≡ q = some_is x q (found p x t (Some q) a e i n) in
                  not_outranked p x n (inl (subst (λ (w : Prior). w.stamp < p.stamp) (sym y) (subst (λ (w : Prior). q.stamp < w.stamp) is (ltb-true q.stamp r.stamp l))));
              over_second = λ x i n. not_outranked p x n (inr (some_is x r (found p x u (Some r) b f i n) ∙ is));
            }
        | false ↦ λ l h.
            let is : q ≡ p = some_is q p h in
            record {
              stands = inl (subst (λ w. In w t) is q_in.0);
              over_first = λ x i n. not_outranked p x n (inr (some_is x q (found p x t (Some q) a e i n) ∙ is));
              over_second = λ x i n. let y : x ≡ r = some_is x r (found p x u (Some r) b f i n) in
                  let w : (r.stamp < q.stamp) ⊎ (r ≡ q) = no_higher q r (r_in.1 ∙ sym q_in.1) (sym v) (ltb-false q.stamp r.stamp l) in
                  not_outranked p x n (subst (λ (z : Prior). (z.stamp < p.stamp) ⊎ (z ≡ p)) (sym y) (subst (λ (z : Prior). (r.stamp < z.stamp) ⊎ (r ≡ z)) is w));
            }
      ]) refl g

  led : (p : Prior) (o o' : Option Prior) → entry_at p.name t ≡ o → entry_at p.name u ≡ o' → leading o o' ≡ Some p → Leads t u p
  led p None None e f g = no_some p g
  led p None (Some r) e f g =
      let is : r ≡ p = some_is r p g in
      record {
        stands = inr (subst (λ w. In w u) is (at_in p.name r u f).0);
        over_first = λ x i n. no_some x (sym (found p x t None a e i n));
        over_second = λ x i n. not_outranked p x n (inr (some_is x r (found p x u (Some r) b f i n) ∙ is));
      }
  led p (Some q) None e f g =
      let is : q ≡ p = some_is q p g in
      record {
        stands = inl (subst (λ w. In w t) is (at_in p.name q t e).0);
        over_first = λ x i n. not_outranked p x n (inr (some_is x q (found p x t (Some q) a e i n) ∙ is));
        over_second = λ x i n. no_some x (sym (found p x u None b f i n));
      }
  led p (Some q) (Some r) e f g = both_have p q r e f g

  -- none of the two tables outranks what leads
  unranked : (p : Prior) (ps : List Prior) → ((r : Prior) → In r ps → r.name ≡ p.name → outranks p r ≡ false) → list_any (outranks p) ps ≡ false
  unranked p [] f = refl
  unranked p (r ∷ ps) f =
      ap (λ c. c || list_any (outranks p) ps)
      ((elim (nat_eq r.name p.name) as (λ c. nat_eq r.name p.name ≡ c → (c && is_gt (prior_cmp r p)) ≡ false) [
        | true ↦ λ e. sym (ap (λ c. c && is_gt (prior_cmp r p)) e) ∙ f r (inl refl) (eqb-true r.name p.name e)
        | false ↦ λ e. refl
      ]) refl)
      ∙ unranked p ps (λ x i. f x (inr i))

  leads_in : (p : Prior) → Leads t u p → In p (table_of (t ++ u))
  leads_in p l =
      In-filter (λ w. not (list_any (outranks w) (t ++ u))) p (set_of prior_cmp (t ++ u)) (In-set_of prior_order p (t ++ u) (elim l.stands [ inl i ↦ In-append_left p t u i | inr i ↦ In-append_right p t u i ]))
      (ap not (unranked p (t ++ u) (λ r i n. let w : In r t ⊎ In r u = In-append_cases r t u i in elim w [ inl j ↦ l.over_first r j n | inr j ↦ l.over_second r j n ])))

  not_ranked : (p r : Prior) → list_any (outranks p) (t ++ u) ≡ false → In r (t ++ u) → outranks p r ≡ true → ⊥
  not_ranked p r e i f = true≢false (sym (any_true (outranks p) r (t ++ u) i f) ∙ e)

  first_leads : (p : Prior) (o' : Option Prior) → entry_at p.name u ≡ o' → list_any (outranks p) (t ++ u) ≡ false → leading (Some p) o' ≡ Some p
  first_leads p None f e = refl
  first_leads p (Some r) f e =
      let r_in = at_in p.name r u f in
      (elim (nat_lt p.stamp r.stamp) as (λ c. nat_lt p.stamp r.stamp ≡ c → Some (cond c r p) ≡ Some p) [
        | true ↦ λ l. absurd (not_ranked p r e (In-append_right r t u r_in.0) (later_outranks p r r_in.1 (ltb-true p.stamp r.stamp l)))
        | false ↦ λ l. refl
      ]) refl

  second_leads : (p : Prior) (o : Option Prior) → entry_at p.name t ≡ o → entry_at p.name u ≡ Some p → list_any (outranks p) (t ++ u) ≡ false → leading o (Some p) ≡ Some p
  second_leads p None f g e = refl
  second_leads p (Some q) f g e =
      let q_in = at_in p.name q t f in
      (elim (nat_lt q.stamp p.stamp) as (λ c. nat_lt q.stamp p.stamp ≡ c → Some (cond c p q) ≡ Some p) [
        | true ↦ λ l. refl
        | false ↦ λ l.
            let w : (p.stamp < q.stamp) ⊎ (p ≡ q) = no_higher q p (sym q_in.1) (sym (agree p.name q p f g)) (ltb-false q.stamp p.stamp l) in
            elim w [
              | inl h ↦ absurd (not_ranked p q e (In-append_left q t u q_in.0) (later_outranks p q q_in.1 h))
              | inr h ↦ ap Some (sym h)
            ]
      ]) refl

  greatest_at : (p : Prior) → In p t ⊎ In p u → list_any (outranks p) (t ++ u) ≡ false → leading (entry_at p.name t) (entry_at p.name u) ≡ Some p
  greatest_at p (inl i) e = ap (λ o. leading o (entry_at p.name u)) (in_at p t a i) ∙ first_leads p (entry_at p.name u) refl e
  greatest_at p (inr i) e = ap (leading (entry_at p.name t)) (in_at p u b i) ∙ second_leads p (entry_at p.name t) refl (in_at p u b i) e

  not_true : (c : Bool) → not c ≡ true → c ≡ false
  not_true true e = absurd (true≢false (sym e))
  not_true false e = refl

  pub lead-table_of : lead t u ≡ table_of (t ++ u)
  lead-table_of =
      ascending_same prior_order (lead t u) (table_of (t ++ u)) (ascends_prior (lead t u) (IsTable-lead t u b)) (ascends_prior (table_of (t ++ u)) (IsTable-table_of (t ++ u)))
      (record {
        to = λ p i. leads_in p (led p (entry_at p.name t) (entry_at p.name u) refl refl (sym (lead_at p.name t u a b) ∙ in_at p (lead t u) (IsTable-lead t u b) i));
        back = λ p i.
            let f = In-filter_from (λ w. not (list_any (outranks w) (t ++ u))) p (set_of prior_cmp (t ++ u)) i in
            (at_in p.name p (lead t u) (lead_at p.name t u a b ∙ greatest_at p (In-append_cases p t u (In-set_of_from prior_order p (t ++ u) f.0)) (not_true (list_any (outranks p) (t ++ u)) f.1))).0;
      })
