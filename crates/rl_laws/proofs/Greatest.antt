-- The greatest entry under a name, and tables of entries that were put in a table before.
use Rattle.std.proofs.Common.{◌≡◌, Bool, true, false, not, ◌&&◌, ◌||◌, List, [], ◌∷◌, ◌++◌, ◌⊎◌, refl, sym, ◌∙◌, ap, subst}
use Rattle.std.proofs.Common.{inl, inr, Ordering, nat_eq, true≢false}
use Rattle.std.specs.declared.cmp.Ordering.TheVariants.{Less, Equal, Greater}
use Rattle.std.specs.Ordering.{ordering_then, ordering_reverse, is_gt, nat_cmp, int_cmp}
use Rattle.std.proofs.lemmas.Bool.{eqb-true, eq-eqb}
use Rattle.std.specs.List.{list_any}
use Rattle.rl_sets.specs.Sets.{In, Below, Ascends, set_of}
use Rattle.rl_sets.proofs.SetLaws.{any_true, In-append_left, In-append_right, In-append_cases}
use Rattle.rl_sets.proofs.SetLaws.{In-filter, In-filter_from, In-set_of, In-set_of_from, ascending_same}
use Rattle.rl_sets.proofs.OrderLaws.{ties}
use Rattle.rl_labels.specs.declared.priors.Prior.{Prior}
use Rattle.rl_labels.specs.Labels.{prior_cmp, name_cmp, outranks, table_of, IsTable}
use Rattle.rl_labels.proofs.LabelOrders.{prior_order}
use Rattle.rl_labels.proofs.TableLaws.{IsTable-table_of}

-- ---- outranking is an order

both : (a b : Bool) → (a && b) ≡ true → (a ≡ true) × (b ≡ true)
both true b e = (refl, e)
both false b e = absurd (true≢false (sym e))

greater : (o : Ordering) → is_gt o ≡ true → o ≡ Greater
greater Less e = absurd (true≢false (sym e))
greater Equal e = absurd (true≢false (sym e))
greater Greater e = refl

pub outranks_is : (p q : Prior) → outranks p q ≡ true → (q.name ≡ p.name) × (prior_cmp p q ≡ Less)
outranks_is p q e =
    let h = both (nat_eq q.name p.name) (is_gt (prior_cmp q p)) e in
    (eqb-true q.name p.name h.0, prior_order.total.antisymm p q ∙ ap ordering_reverse (greater (prior_cmp q p) h.1))

outranks_so : (p q : Prior) → q.name ≡ p.name → prior_cmp p q ≡ Less → outranks p q ≡ true
outranks_so p q n l =
    ap (λ b. b && is_gt (prior_cmp q p)) (eq-eqb q.name p.name n) ∙ ap is_gt (prior_order.total.antisymm q p ∙ ap ordering_reverse l)

outranks_trans : (p q r : Prior) → outranks p q ≡ true → outranks q r ≡ true → outranks p r ≡ true
outranks_trans p q r e f =
    let a = outranks_is p q e in
    let b = outranks_is q r f in
    outranks_so p r (b.0 ∙ a.0) (prior_order.total.trans p q r a.1 b.1)

less_not_equal : Less ≡ Equal → ⊥
less_not_equal e = subst (λ (o : Ordering). elim o as (λ _. Type 0) [ Less ↦ Unit {0} | Equal ↦ ⊥ | Greater ↦ ⊥ ]) e tt

pub never_itself : (p : Prior) → outranks p p ≡ true → ⊥
never_itself p e = less_not_equal (sym (outranks_is p p e).1 ∙ ties prior_order p)

refuted : (b : Bool) → (b ≡ true → ⊥) → b ≡ false
refuted true f = absurd (f refl)
refuted false f = refl

-- ---- above each entry there is one that none outranks

record Top (r : Prior) (xs : List Prior) : Type 0 where
  entry : Prior
  stands : In entry xs ⊎ (r ≡ entry)
  above : (r ≡ entry) ⊎ (outranks r entry ≡ true)
  highest : (x : Prior) → In x xs → outranks entry x ≡ true → ⊥

top_above : (r x : Prior) (xs : List Prior) → outranks r x ≡ true → Top x xs → Top r (x ∷ xs)
top_above r x xs h t = record {
  entry = t.entry;
  stands = let s : In t.entry xs ⊎ (x ≡ t.entry) = t.stands in elim s [ inl i ↦ inl (inr i) | inr e ↦ inl (inl e) ];
  above = let a : (x ≡ t.entry) ⊎ (outranks x t.entry ≡ true) = t.above in elim a [
    | inl e ↦ inr (subst (λ w. outranks r w ≡ true) e h)
    | inr o ↦ inr (outranks_trans r x t.entry h o)
  ];
  highest = λ y i o. elim i [
    | inl e ↦ let a : (x ≡ t.entry) ⊎ (outranks x t.entry ≡ true) = t.above in elim a [
      | inl f ↦ never_itself x (subst (λ w. outranks x w ≡ true) (sym e) (subst (λ w. outranks w y ≡ true) (sym f) o))
      | inr u ↦ never_itself x (outranks_trans x t.entry x u (subst (λ w. outranks t.entry w ≡ true) (sym e) o))
    ]
    | inr j ↦ t.highest y j o
  ];
}

top_beside : (r x : Prior) (xs : List Prior) → outranks r x ≡ false → Top r xs → Top r (x ∷ xs)
top_beside r x xs h t = record {
  entry = t.entry;
  stands = let s : In t.entry xs ⊎ (r ≡ t.entry) = t.stands in elim s [ inl i ↦ inl (inr i) | inr e ↦ inr e ];
  above = t.above;
  highest = λ y i o. elim i [
    | inl e ↦ let a : (r ≡ t.entry) ⊎ (outranks r t.entry ≡ true) = t.above in
        let over : outranks t.entry x ≡ true = subst (λ w. outranks t.entry w ≡ true) (sym e) o in
        elim a [
          | inl f ↦ true≢false (sym (subst (λ w. outranks w x ≡ true) (sym f) over) ∙ h)
          | inr u ↦ true≢false (sym (outranks_trans r t.entry x u over) ∙ h)
        ]
    | inr j ↦ t.highest y j o
  ];
}

top : (r : Prior) (xs : List Prior) → Top r xs
top r [] = record { entry = r; stands = inr refl; above = inl refl; highest = λ x i o. absurd i }
top r (x ∷ xs) =
    (elim (outranks r x) as (λ b. outranks r x ≡ b → Top r (x ∷ xs)) [
      | true ↦ λ h. top_above r x xs h (top x xs)
      | false ↦ λ h. top_beside r x xs h (top r xs)
    ]) refl

-- ---- what stands in the table of some entries

unranked : (p : Prior) (xs : List Prior) → ((x : Prior) → In x xs → outranks p x ≡ true → ⊥) → list_any (outranks p) xs ≡ false
unranked p [] f = refl
unranked p (x ∷ xs) f = ap (λ b. b || list_any (outranks p) xs) (refuted (outranks p x) (f x (inl refl))) ∙ unranked p xs (λ y i. f y (inr i))

pub to_table : (p : Prior) (ps : List Prior) → In p ps → ((x : Prior) → In x ps → outranks p x ≡ true → ⊥) → In p (table_of ps)
to_table p ps i f =
    In-filter (λ w. not (list_any (outranks w) ps)) p (set_of prior_cmp ps) (In-set_of prior_order p ps i) (ap not (unranked p ps f))

not_true : (c : Bool) → not c ≡ true → c ≡ false
not_true true e = absurd (true≢false (sym e))
not_true false e = refl

pub from_table : (p : Prior) (ps : List Prior) → In p (table_of ps) → In p ps × ((x : Prior) → In x ps → outranks p x ≡ true → ⊥)
from_table p ps i =
    let f = In-filter_from (λ w. not (list_any (outranks w) ps)) p (set_of prior_cmp ps) i in
    (In-set_of_from prior_order p ps f.0, λ x j o. true≢false (sym (any_true (outranks p) x ps j o) ∙ not_true (list_any (outranks p) ps) f.1))

-- the entry that stands in the table above one
record Kept (r : Prior) (ps : List Prior) : Type 0 where
  entry : Prior
  stands : In entry (table_of ps)
  above : (r ≡ entry) ⊎ (outranks r entry ≡ true)

kept : (r : Prior) (ps : List Prior) → In r ps → Kept r ps
kept r ps i =
    let t = top r ps in
    let there : In t.entry ps = let s : In t.entry ps ⊎ (r ≡ t.entry) = t.stands in elim s [ inl j ↦ j | inr e ↦ subst (λ w. In w ps) e i ] in
    record { entry = t.entry; stands = to_table t.entry ps there t.highest; above = t.above }

-- ---- the table of a table's entries and others

pub ascends_prior : (t : List Prior) → IsTable t → Ascends prior_cmp t
ascends_prior [] a = tt
ascends_prior (p ∷ t) a = (below p t a.0, ascends_prior t a.1)
  where
    below : (p : Prior) (t : List Prior) → Below name_cmp p t → Below prior_cmp p t
    below p [] b = tt
    below p (q ∷ t) b = (ap (λ o. ordering_then o (ordering_then (nat_cmp p.stamp q.stamp) (int_cmp p.value q.value))) b.0, below p t b.1)

ascends : (ps : List Prior) → Ascends prior_cmp (table_of ps)
ascends ps = ascends_prior (table_of ps) (IsTable-table_of ps)

more : (p : Prior) (t ps : List Prior) → In p (table_of (t ++ table_of ps)) → In p (table_of (t ++ ps))
more p t ps i =
    let f = from_table p (t ++ table_of ps) i in
    to_table p (t ++ ps) (wide (In-append_cases p t (table_of ps) f.0)) (λ x j o.
    let c : In x t ⊎ In x ps = In-append_cases x t ps j in
    elim c [
      | inl k ↦ f.1 x (In-append_left x t (table_of ps) k) o
      | inr k ↦ let g = kept x ps k in f.1 g.entry (In-append_right g.entry t (table_of ps) g.stands) (over x g.entry o g.above)
    ])
  where
    wide : In p t ⊎ In p (table_of ps) → In p (t ++ ps)
    wide (inl k) = In-append_left p t ps k
    wide (inr k) = In-append_right p t ps (from_table p ps k).0

    over : (x g : Prior) → outranks p x ≡ true → (x ≡ g) ⊎ (outranks x g ≡ true) → outranks p g ≡ true
    over x g o (inl e) = subst (λ w. outranks p w ≡ true) e o
    over x g o (inr u) = outranks_trans p x g o u

less_many : (p : Prior) (t ps : List Prior) → In p (table_of (t ++ ps)) → In p (table_of (t ++ table_of ps))
less_many p t ps i =
    let f = from_table p (t ++ ps) i in
    to_table p (t ++ table_of ps) (narrow f.1 (In-append_cases p t ps f.0)) (λ x j o.
    let c : In x t ⊎ In x (table_of ps) = In-append_cases x t (table_of ps) j in
    elim c [
      | inl k ↦ f.1 x (In-append_left x t ps k) o
      | inr k ↦ f.1 x (In-append_right x t ps (from_table x ps k).0) o
    ])
  where
    narrow : ((x : Prior) → In x (t ++ ps) → outranks p x ≡ true → ⊥) → In p t ⊎ In p ps → In p (t ++ table_of ps)
    narrow f (inl k) = In-append_left p t (table_of ps) k
    narrow f (inr k) = In-append_right p t (table_of ps) (to_table p ps k (λ x j. f x (In-append_right x t ps j)))

-- entries may be put in a table before
pub table_of-table : (t ps : List Prior) → table_of (t ++ table_of ps) ≡ table_of (t ++ ps)
table_of-table t ps =
    ascending_same prior_order (table_of (t ++ table_of ps)) (table_of (t ++ ps)) (ascends (t ++ table_of ps)) (ascends (t ++ ps))
    (record { to = λ p. more p t ps; back = λ p. less_many p t ps })
