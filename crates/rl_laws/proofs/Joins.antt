-- Tables of priorities whose stamps tell them apart, put over one another.
use Rattle.std.proofs.Common.{◌≡◌, ◌<◌, ◌≤◌, ℕ, true, false, cond, ◌&&◌, List, [], ◌∷◌, ◌++◌, ◌⊎◌, map, nat_lt, refl, sym, ◌∙◌, ap, subst, inl, inr, Option, Some, None, arith}
use Rattle.std.specs.declared.cmp.Ordering.TheVariants.{Less, Equal, Greater}
use Rattle.std.specs.Ordering.{nat_cmp, int_cmp, ordering_then, is_gt}
use Rattle.std.specs.Cmp.{nat_cmp_is}
use Rattle.std.proofs.lemmas.Cmp.{ranked}
use Rattle.std.proofs.lemmas.Bool.{eq-eqb, ltb-true, ltb-false}
use Rattle.rl_sets.specs.Sets.{In, joined}
use Rattle.rl_sets.proofs.SetLaws.{In-append_left, In-append_right, In-append_cases, In-joined_from, In-map_from, ascending_same}
use Rattle.rl_labels.specs.declared.priors.Prior.{Prior}
use Rattle.rl_labels.specs.declared.carry.Carry.{Carry}
use Rattle.rl_labels.specs.Labels.{prior_cmp, outranks, table_of, newer, lead, leading, entry_at}
use Rattle.rl_labels.proofs.LabelOrders.{prior_order}
use Rattle.rl_labels.proofs.TableLaws.{IsTable-lead, IsTable-table_of, lead_at}
use Rattle.rl_laws.specs.Priorities.{led}
use Rattle.rl_laws.specs.Ties.{StampsTell, AreAmong, IsTableOf, JoinsLead}
use Rattle.rl_laws.proofs.Greatest.{from_table, to_table, outranks_is, never_itself, ascends_prior, table_of-table}
use Rattle.rl_laws.proofs.Leading.{some_is, in_at, at_in}

-- ---- which of two outranks

no_lower : (p q : Prior) → q.name ≡ p.name → prior_cmp p q ≡ Less → q.stamp < p.stamp → ⊥
no_lower p q n e h =
    let other : prior_cmp p q ≡ Greater = λ i. ordering_then (sym (nat_cmp_is p.name q.name Equal (sym n)) i) (ordering_then (sym (nat_cmp_is p.stamp q.stamp Greater h) i) (int_cmp p.value q.value)) in
    absurd (subst (λ o. elim o as (λ _. Type 0) [ Less ↦ Unit {0} | Equal ↦ ⊥ | Greater ↦ ⊥ ]) (sym e ∙ other) tt)

later_outranks : (p q : Prior) → q.name ≡ p.name → p.stamp < q.stamp → outranks p q ≡ true
later_outranks p q n h =
    λ i. eq-eqb q.name p.name n i && is_gt (ordering_then (sym (nat_cmp_is q.name p.name Equal n) i) (ordering_then (sym (nat_cmp_is q.stamp p.stamp Greater h) i) (int_cmp q.value p.value)))

-- of two numbers
trichotomy : (m k : ℕ) → (m < k) ⊎ ((m ≡ k) ⊎ (k < m))
trichotomy m k =
    (elim (nat_cmp m k) as (λ o. nat_cmp m k ≡ o → (m < k) ⊎ ((m ≡ k) ⊎ (k < m))) [
      | Less ↦ λ e. inl (ranked m k Less (sym e))
      | Equal ↦ λ e. inr (inl (ranked m k Equal (sym e)))
      | Greater ↦ λ e. inr (inr (ranked m k Greater (sym e)))
    ]) refl

newer_first : (q r : Prior) → q.stamp ≤ (newer q r).stamp
newer_first q r =
    (elim (nat_lt q.stamp r.stamp) as (λ c. nat_lt q.stamp r.stamp ≡ c → q.stamp ≤ (cond c r q).stamp) [
      | true ↦ λ l. let h : q.stamp < r.stamp = ltb-true q.stamp r.stamp l in omega arith
      | false ↦ λ l. omega arith
    ]) refl

newer_second : (q r : Prior) → r.stamp ≤ (newer q r).stamp
newer_second q r =
    (elim (nat_lt q.stamp r.stamp) as (λ c. nat_lt q.stamp r.stamp ≡ c → r.stamp ≤ (cond c r q).stamp) [
      | true ↦ λ l. omega arith
      | false ↦ λ l. ltb-false q.stamp r.stamp l
    ]) refl

newer_is : (q r : Prior) → (q ≡ newer q r) ⊎ (r ≡ newer q r)
newer_is q r = elim (nat_lt q.stamp r.stamp) as (λ c. (q ≡ cond c r q) ⊎ (r ≡ cond c r q)) [ true ↦ inr refl | false ↦ inl refl ]

-- ---- what leads under a name

lead_is : (p : Prior) (o o' : Option Prior) → leading o o' ≡ Some p → (o ≡ Some p) ⊎ (o' ≡ Some p)
lead_is p None o' e = inr e
lead_is p (Some q) None e = inl e
lead_is p (Some q) (Some r) e =
    let n : (q ≡ newer q r) ⊎ (r ≡ newer q r) = newer_is q r in
    let is : newer q r ≡ p = some_is (newer q r) p e in
    elim n [ inl f ↦ inl (ap Some (f ∙ is)) | inr f ↦ inr (ap Some (f ∙ is)) ]

over_first : (p x : Prior) (o : Option Prior) → leading (Some x) o ≡ Some p → x.stamp ≤ p.stamp
over_first p x None e = let is : x ≡ p = some_is x p e in subst (λ (w : Prior). x.stamp ≤ w.stamp) is (omega arith)
over_first p x (Some r) e = subst (λ (w : Prior). x.stamp ≤ w.stamp) (some_is (newer x r) p e) (newer_first x r)

over_second : (p x : Prior) (o : Option Prior) → leading o (Some x) ≡ Some p → x.stamp ≤ p.stamp
over_second p x None e = let is : x ≡ p = some_is x p e in subst (λ (w : Prior). x.stamp ≤ w.stamp) is (omega arith)
over_second p x (Some q) e = subst (λ (w : Prior). x.stamp ≤ w.stamp) (some_is (newer q x) p e) (newer_second q x)

-- where an entry stands in one of two tables, something leads
record Leader (o o' : Option Prior) : Type 0 where
  entry : Prior
  leads : leading o o' ≡ Some entry

leader_first : (x : Prior) (o : Option Prior) → Leader (Some x) o
leader_first x None = record { entry = x; leads = refl }
leader_first x (Some r) = record { entry = newer x r; leads = refl }

leader_second : (x : Prior) (o : Option Prior) → Leader o (Some x)
leader_second x None = record { entry = x; leads = refl }
leader_second x (Some q) = record { entry = newer q x; leads = refl }

-- ---- two tables

module _ (ps : List Prior) (tells : StampsTell ps) where
  -- one that outranks another has a greater stamp
  outranked : (p x : Prior) → In p ps → In x ps → x.stamp ≤ p.stamp → outranks p x ≡ true → ⊥
  outranked p x i j h o =
      let r = outranks_is p x o in
      let s : (x.stamp < p.stamp) ⊎ ((x.stamp ≡ p.stamp) ⊎ (p.stamp < x.stamp)) = trichotomy x.stamp p.stamp in
      elim s [
        | inl l ↦ no_lower p x r.0 r.1 l
        | inr b ↦ elim b [
          | inl e ↦ never_itself p (subst (λ w. outranks p w ≡ true) (tells x p j i e) o)
          | inr l ↦ absurd (omega arith)
        ]
      ]

  module _ (t u : List Prior) (a : IsTableOf ps t) (b : IsTableOf ps u) where
    both_among : AreAmong (t ++ u) ps
    both_among p i = let w : In p t ⊎ In p u = In-append_cases p t u i in elim w [ inl j ↦ a.among p j | inr j ↦ b.among p j ]

    -- what leads stands in one of the two
    stands : (p : Prior) → leading (entry_at p.name t) (entry_at p.name u) ≡ Some p → In p (t ++ u)
    stands p e =
        let w : (entry_at p.name t ≡ Some p) ⊎ (entry_at p.name u ≡ Some p) = lead_is p (entry_at p.name t) (entry_at p.name u) e in
        elim w [ inl f ↦ In-append_left p t u (at_in p.name p t f).0 | inr f ↦ In-append_right p t u (at_in p.name p u f).0 ]

    -- it has no smaller stamp than any entry of its name
    above : (p x : Prior) → leading (entry_at p.name t) (entry_at p.name u) ≡ Some p → In x (t ++ u) → x.name ≡ p.name → x.stamp ≤ p.stamp
    above p x e i n =
        let w : In x t ⊎ In x u = In-append_cases x t u i in
        elim w [
          | inl j ↦ over_first p x (entry_at p.name u) (ap (λ o. leading o (entry_at p.name u)) (sym (ap (λ m. entry_at m t) (sym n) ∙ in_at x t a.is_table j)) ∙ e)
          | inr j ↦ over_second p x (entry_at p.name t) (ap (leading (entry_at p.name t)) (sym (ap (λ m. entry_at m u) (sym n) ∙ in_at x u b.is_table j)) ∙ e)
        ]

    to_of : (p : Prior) → In p (lead t u) → In p (table_of (t ++ u))
    to_of p i =
        let e : leading (entry_at p.name t) (entry_at p.name u) ≡ Some p = sym (lead_at p.name t u a.is_table b.is_table) ∙ in_at p (lead t u) (IsTable-lead t u b.is_table) i in
        let here = stands p e in
        to_table p (t ++ u) here (λ x j o. outranked p x (both_among p here) (both_among x j) (above p x e j (outranks_is p x o).0) o)

    some_leader : (p : Prior) → In p (t ++ u) → Leader (entry_at p.name t) (entry_at p.name u)
    some_leader p i =
        let w : In p t ⊎ In p u = In-append_cases p t u i in
        elim w [
          | inl j ↦ subst (λ o. Leader o (entry_at p.name u)) (sym (in_at p t a.is_table j)) (leader_first p (entry_at p.name u))
          | inr j ↦ subst (λ o. Leader (entry_at p.name t) o) (sym (in_at p u b.is_table j)) (leader_second p (entry_at p.name t))
        ]

    from_of : (p : Prior) → In p (table_of (t ++ u)) → In p (lead t u)
    from_of p i =
        let f = from_table p (t ++ u) i in
        let g = some_leader p f.0 in
        let at : entry_at p.name (lead t u) ≡ Some g.entry = lead_at p.name t u a.is_table b.is_table ∙ g.leads in
        let there = at_in p.name g.entry (lead t u) at in
        let e : leading (entry_at g.entry.name t) (entry_at g.entry.name u) ≡ Some g.entry = ap (λ m. leading (entry_at m t) (entry_at m u)) there.1 ∙ g.leads in
        let g_in = stands g.entry e in
        let low : p.stamp ≤ g.entry.stamp = above g.entry p e f.0 (sym there.1) in
        let s : (p.stamp < g.entry.stamp) ⊎ ((p.stamp ≡ g.entry.stamp) ⊎ (g.entry.stamp < p.stamp)) = trichotomy p.stamp g.entry.stamp in
        elim s [
          | inl l ↦ absurd (f.1 g.entry g_in (later_outranks p g.entry there.1 l))
          | inr c ↦ elim c [
            | inl h ↦ subst (λ w. In w (lead t u)) (sym (tells p g.entry (both_among p f.0) (both_among g.entry g_in) h)) there.0
            | inr l ↦ absurd (omega arith)
          ]
        ]

    two_lead : table_of (t ++ u) ≡ lead t u
    two_lead =
        ascending_same prior_order (table_of (t ++ u)) (lead t u) (ascends_prior (table_of (t ++ u)) (IsTable-table_of (t ++ u))) (ascends_prior (lead t u) (IsTable-lead t u b.is_table))
        (record { to = from_of; back = to_of })

  -- ---- many tables

  all_lead : (ts : List (List Prior)) → ((t : List Prior) → In t ts → IsTableOf ps t) → table_of (joined ts) ≡ led ts
  all_lead [] h = refl
  all_lead (t ∷ ts) h =
      sym (table_of-table t (joined ts))
      ∙ two_lead t (table_of (joined ts)) (h t (inl refl)) (record {
        is_table = IsTable-table_of (joined ts);
        among = λ p i. let j = In-joined_from p ts (from_table p (joined ts) i).0 in (h j.0 (inr j.1)).among p j.2;
      })
      ∙ ap (lead t) (all_lead ts (λ u i. h u (inr i)))

pub joins_lead : JoinsLead
joins_lead ps tells cs h =
    all_lead ps tells (map (λ c. c.table) cs)
    (λ t i. let j = In-map_from (λ (c : Carry). c.table) t cs i in subst (IsTableOf ps) j.2 (h j.0 j.1))
