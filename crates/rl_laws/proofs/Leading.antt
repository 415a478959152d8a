-- Survivors of a cut, put over one another.
use Rattle.std.proofs.Common.{◌≡◌, ℕ, true, false, cond, List, [], ◌∷◌, ◌⊎◌, nat_eq, refl, sym, ◌∙◌, ap, subst, inl, inr, Option, Some, None}
use Rattle.std.specs.declared.cmp.Ordering.TheVariants.{Less}
use Rattle.std.proofs.lemmas.Bool.{eqb-true, eq-eqb}
use Rattle.rl_sets.specs.Sets.{In, Below, joined}
use Rattle.rl_sets.proofs.SetLaws.{In-joined_from}
use Rattle.rl_labels.specs.declared.priors.Prior.{Prior}
use Rattle.rl_labels.specs.Labels.{name_cmp, table_of, IsTable, lead, entry_at}
use Rattle.rl_labels.specs.LabelLaws.{Agree}
use Rattle.rl_labels.proofs.TableLaws.{less, apart_names, IsTable-table_of}
use Rattle.rl_labels.proofs.Leads.{lead-table_of}
use Rattle.rl_labels.proofs.Survivors.{survivors_agree, order_is_free}
use Rattle.rl_laws.specs.Priorities.{led, led_in_turn, Stay, SurvivorsLeadAsOne, SurvivorsLeadInAnyOrder, SurvivorsLeadInTurn}
use Rattle.rl_laws.proofs.Greatest.{from_table, table_of-table}

-- ---- an entry and its name in a table

pub some_is : (p q : Prior) → Some p ≡ Some q → p ≡ q
some_is p q e = ap (λ (o : Option Prior). elim o as (λ _. Prior) [ None ↦ p | Some r ↦ r ]) e

pub no_some : {P : Type 0} (q : Prior) → None ≡ Some q → P
no_some q e = absurd (subst (λ (o : Option Prior). elim o as (λ _. Type 0) [ None ↦ Unit {0} | Some r ↦ ⊥ ]) e tt)

below_in : (p q : Prior) (t : List Prior) → Below name_cmp p t → In q t → name_cmp p q ≡ Less
below_in p q [] b h = absurd h
below_in p q (r ∷ t) b (inl e) = subst (λ (w : Prior). name_cmp p w ≡ Less) e b.0
below_in p q (r ∷ t) b (inr h) = below_in p q t b.1 h

pub in_at : (p : Prior) (t : List Prior) → IsTable t → In p t → entry_at p.name t ≡ Some p
in_at p [] a h = absurd h
in_at p (q ∷ t) a (inl e) = ap (λ c. cond c (Some q) (entry_at p.name t)) (eq-eqb q.name p.name (λ i. (e i).name)) ∙ ap Some e
in_at p (q ∷ t) a (inr h) =
    ap (λ c. cond c (Some q) (entry_at p.name t)) (apart_names q.name p.name (less q.name p.name (below_in q p t a.0 h))) ∙ in_at p t a.1 h

pub at_in : (n : ℕ) (p : Prior) (t : List Prior) → entry_at n t ≡ Some p → In p t × (p.name ≡ n)
at_in n p [] e = no_some p e
at_in n p (q ∷ t) e =
    (elim (nat_eq q.name n) as (λ c. nat_eq q.name n ≡ c → cond c (Some q) (entry_at n t) ≡ Some p → In p (q ∷ t) × (p.name ≡ n)) [
      | true ↦ λ f g. (inl (some_is q p g), subst (λ (w : Prior). w.name ≡ n) (some_is q p g) (eqb-true q.name n f))
      | false ↦ λ f g. let r = at_in n p t g in (inr r.0, r.1)
    ]) refl e

-- ---- many tables

-- a table that stays agrees with the table of the entries of others that stay
agrees : (candidates ts : List (List Prior)) (t : List Prior) → Stay candidates (t ∷ ts) → Agree t (table_of (joined ts))
agrees candidates ts t s n p q e f =
    let own = s t (inl refl) in
    let there = at_in n q (table_of (joined ts)) f in
    let of = In-joined_from q ts (from_table q (joined ts) there.0).0 in
    let other = s of.0 (inr of.1) in
    survivors_agree candidates t of.0 own.0 other.0 own.1 other.1 n p q e (subst (λ m. entry_at m of.0 ≡ Some q) there.1 (in_at q of.0 other.0 of.2))

pub lead_as_one : SurvivorsLeadAsOne
lead_as_one candidates [] s = refl
lead_as_one candidates (t ∷ ts) s =
    ap (lead t) (lead_as_one candidates ts (λ u i. s u (inr i)))
    ∙ lead-table_of t (table_of (joined ts)) (s t (inl refl)).0 (IsTable-table_of (joined ts)) (agrees candidates ts t s)
    ∙ table_of-table t (joined ts)

pub lead_in_any_order : SurvivorsLeadInAnyOrder
lead_in_any_order candidates ts us s same =
    lead_as_one candidates ts s ∙ order_is_free ts us same ∙ sym (lead_as_one candidates us (λ t i. s t ((same t).1 i)))

-- ---- from the front

turned : List (List Prior) → List (List Prior) → List (List Prior)
turned before [] = before
turned before (t ∷ ts) = turned (t ∷ before) ts

in_turned : (x : List Prior) (before ts : List (List Prior)) → In x (turned before ts) → In x before ⊎ In x ts
unfolding turned
in_turned x before [] h = inl h
in_turned x before (t ∷ ts) h =
    let r : In x (t ∷ before) ⊎ In x ts = in_turned x (t ∷ before) ts h in
    elim r [ inl i ↦ elim i [ inl e ↦ inr (inl e) | inr j ↦ inl j ] | inr i ↦ inr (inr i) ]

to_turned : (x : List Prior) (before ts : List (List Prior)) → In x before ⊎ In x ts → In x (turned before ts)
unfolding turned
to_turned x before [] (inl h) = h
to_turned x before [] (inr h) = absurd h
to_turned x before (t ∷ ts) (inl h) = to_turned x (t ∷ before) ts (inl (inr h))
to_turned x before (t ∷ ts) (inr (inl e)) = to_turned x (t ∷ before) ts (inl (inl e))
to_turned x before (t ∷ ts) (inr (inr h)) = to_turned x (t ∷ before) ts (inr h)

in_turn_is : (before ts : List (List Prior)) → led_in_turn (led before) ts ≡ led (turned before ts)
unfolding turned
in_turn_is before [] = refl
in_turn_is before (t ∷ ts) = in_turn_is (t ∷ before) ts

from_none : (x : List Prior) (ts : List (List Prior)) → In x (turned [] ts) → In x ts
from_none x ts h = let r : ⊥ ⊎ In x ts = in_turned x [] ts h in elim r [ inl i ↦ absurd i | inr i ↦ i ]

pub lead_in_turn : SurvivorsLeadInTurn
lead_in_turn candidates ts s =
    in_turn_is [] ts
    ∙ lead_in_any_order candidates (turned [] ts) ts (λ t i. s t (from_none t ts i))
    (λ t. (from_none t ts, λ i. to_turned t [] ts (inr i)))
