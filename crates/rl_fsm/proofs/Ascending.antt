-- The end of the loop over neighbouring edges; which edge is found by its own letter.
use Rattle.std.proofs.Common.{◌≡◌, ℕ, suc, ◌-◌, ◌<◌, ◌≤◌, ℤ, ◌<ℤ◌, ◌≤ℤ◌, Bool, true, false, cond, ◌&&◌, ◌||◌, List, [], ◌∷◌, map, length, drop, drop-cons, get_or, Some, int_lt, nat_eq, nat_lt, bit_and, refl, ap, sym, ◌∙◌, subst, inl, inr, ◌⊎◌, arith, true≢false}
use Rattle.std.proofs.Math.ListN.{drop_of_length-le}
use native.Mathlib.Decide.{dec_lt}
use borrow.Author.Tests.{ltb-true, eqb-true, eq-eqb}
use Rattle.std.specs.Ordering.{int_eq}
use Rattle.std.proofs.lemmas.Int.{ints}
use Rattle.rl_types.specs.KeyRange.{Range, in_range}
use Rattle.rl_sets.specs.Sets.{In}
use Rattle.rl_fsm.specs.declared.edge.Edge.{Edge}
use Rattle.rl_fsm.specs.Reads.{Reads, takes, own_letter, is_before, same_range, ascend}
use Rattle.rl_fsm.specs.Graphs.{reads_of, edge_for}
use Rattle.rl_fsm.specs.Sound.{IsEdge}
use Rattle.rl_fsm.proofs.PieceLaws.{lt_from, range_is, above_range}

pub ascend_done : (es : List Edge) (i : ℕ) → 0 < i → length es ≤ i → ascend (map reads_of (drop (i - 1) es)) ≡ true
ascend_done es i z h =
    elim (dec_lt (i - 1) (length es)) [
      | yes l ↦ last es (i - 1) l (omega arith)
      | no n ↦ ap (λ w. ascend (map reads_of w)) (drop_of_length-le es (omega arith))
    ]
  where
    last : (es : List Edge) (k : ℕ) → k < length es → length es ≤ suc k → ascend (map reads_of (drop k es)) ≡ true
    last [] k l h = absurd (omega arith)
    last (e ∷ es) k l h = ap (λ w. ascend (map reads_of w)) (drop-cons (e ∷ es) k e l ∙ ap (λ w. get_or (e ∷ es) k e ∷ w) (drop_of_length-le (e ∷ es) h))

-- ---- what the order of edges says of any two

split_and : (a b : Bool) → (a && b) ≡ true → (a ≡ true) × (b ≡ true)
split_and true b e = (refl, e)
split_and false b e = absurd (true≢false (sym e))

split_or : (a b : Bool) → (a || b) ≡ true → (a ≡ true) ⊎ (b ≡ true)
split_or true b e = inl refl
split_or false b e = inr e

-- lower keys, or the same keys and conditions and lesser truths
abbrev pub Precedes : Reads → Reads → Type 0
Precedes r s = (r.range.hi <ℤ s.range.lo) ⊎ ((r.range ≡ s.range) × (r.asks ≡ s.asks) × (r.truths < s.truths))

int_same : (x y : ℤ) → int_eq x y ≡ true → x ≡ y
int_same x y e = grind (arith, ints)

range_same : (r s : Range) → same_range r s ≡ true → r ≡ s
range_same r s e = let p = split_and (int_eq r.lo s.lo) (int_eq r.hi s.hi) e in λ i. record { lo = int_same r.lo s.lo p.0 i; hi = int_same r.hi s.hi p.1 i }

pub precedes_from : (r s : Reads) → is_before r s ≡ true → Precedes r s
precedes_from r s e = elim (split_or (int_lt r.range.hi s.range.lo) (same_range r.range s.range && nat_eq r.asks s.asks && nat_lt r.truths s.truths) e) [
  | inl l ↦ inl (lt_from r.range.hi s.range.lo l)
  | inr m ↦ let p = split_and (same_range r.range s.range && nat_eq r.asks s.asks) (nat_lt r.truths s.truths) m in
      let q = split_and (same_range r.range s.range) (nat_eq r.asks s.asks) p.0 in
      inr (range_same r.range s.range q.0, eqb-true r.asks s.asks q.1, ltb-true r.truths s.truths p.1)
]

abbrev pub HasKeys : Reads → Type 0
HasKeys r = r.range.lo ≤ℤ r.range.hi

through : (a b c d : ℤ) → a <ℤ b → b ≤ℤ c → c <ℤ d → a <ℤ d
through a b c d x y z = omega (arith, ints)

precedes_trans : (r s t : Reads) → HasKeys s → Precedes r s → Precedes s t → Precedes r t
precedes_trans r s t k (inl a) (inl b) = inl (through r.range.hi s.range.lo s.range.hi t.range.lo a k b)
precedes_trans r s t k (inl a) (inr b) = inl (subst (λ w. r.range.hi <ℤ w.lo) b.0 a)
precedes_trans r s t k (inr a) (inl b) = inl (subst (λ w. w.hi <ℤ t.range.lo) (sym a.0) b)
precedes_trans r s t k (inr a) (inr b) = inr (a.0 ∙ b.0, a.1 ∙ b.1, omega arith)

pub first_precedes : (r : Reads) (rs : List Reads) → ascend (r ∷ rs) ≡ true → ((s : Reads) → In s rs → HasKeys s) → (s : Reads) → In s rs → Precedes r s
first_precedes r [] a k s i = absurd i
first_precedes r (t ∷ rs) a k s (inl e) = subst (Precedes r) e (precedes_from r t (split_and (is_before r t) (ascend (t ∷ rs)) a).0)
first_precedes r (t ∷ rs) a k s (inr i) =
    let p = split_and (is_before r t) (ascend (t ∷ rs)) a in
    precedes_trans r t s (k t (inl refl)) (precedes_from r t p.0) (first_precedes t rs p.1 (λ u j. k u (inr j)) s i)

pub rest_ascends : (r : Reads) (rs : List Reads) → ascend (r ∷ rs) ≡ true → ascend rs ≡ true
rest_ascends r [] a = refl
rest_ascends r (s ∷ rs) a = (split_and (is_before r s) (ascend (s ∷ rs)) a).1

-- ---- each edge is found by its own letter

takes_itself : (r : Reads) → HasKeys r → bit_and r.truths r.asks ≡ r.truths → takes (own_letter r) r ≡ true
takes_itself r k t = λ i. (ap (λ b. b && nat_eq (bit_and r.truths r.asks) r.truths) (range_is r.range.lo r.range (self r.range.lo) k) ∙ eq-eqb (bit_and r.truths r.asks) r.truths t) i
  where
    self : (x : ℤ) → x ≤ℤ x
    self x = omega (arith, ints)

not_taken : (r s : Reads) → bit_and s.truths s.asks ≡ s.truths → Precedes r s → takes (own_letter s) r ≡ false
not_taken r s t (inl a) = ap (λ b. b && nat_eq (bit_and s.truths r.asks) r.truths) (above_range s.range.lo r.range a)
not_taken r s t (inr a) = ap (λ b. in_range s.range.lo r.range && b) (unequal (bit_and s.truths r.asks) r.truths (ap (bit_and s.truths) a.1 ∙ t) a.2) ∙ and_false (in_range s.range.lo r.range)
  where
    unequal : (x y : ℕ) → x ≡ s.truths → y < s.truths → nat_eq x y ≡ false
    unequal x y e l = (elim (nat_eq x y) as (λ b. nat_eq x y ≡ b → b ≡ false) [ false ↦ λ _. refl | true ↦ λ q. let f : x ≡ y = eqb-true x y q in absurd (omega arith) ]) refl

    and_false : (b : Bool) → (b && false) ≡ false
    and_false true = refl
    and_false false = refl

In-reads : (e : Edge) (es : List Edge) → In e es → In (reads_of e) (map reads_of es)
In-reads e [] i = absurd i
In-reads e (f ∷ es) (inl q) = inl (ap reads_of q)
In-reads e (f ∷ es) (inr i) = inr (In-reads e es i)

In-reads_from : (r : Reads) (es : List Edge) → In r (map reads_of es) → (e : Edge) × In e es × (reads_of e ≡ r)
In-reads_from r [] i = absurd i
In-reads_from r (f ∷ es) (inl q) = (f, inl refl, q)
In-reads_from r (f ∷ es) (inr i) = let p = In-reads_from r es i in (p.0, inr p.1, p.2)

pub edge_found : (n : ℕ) (es : List Edge) → ((e : Edge) → In e es → IsEdge n e) → ascend (map reads_of es) ≡ true → (e : Edge) → In e es → edge_for (own_letter (reads_of e)) es ≡ Some e
edge_found n [] k a e i = absurd i
edge_found n (f ∷ es) k a e (inl q) =
    subst (λ w. edge_for (own_letter (reads_of w)) (f ∷ es) ≡ Some w) q
    (ap (λ b. cond b (Some f) (edge_for (own_letter (reads_of f)) es)) (takes_itself (reads_of f) (k f (inl refl)).keys (k f (inl refl)).truths))
edge_found n (f ∷ es) k a e (inr i) =
    let before : Precedes (reads_of f) (reads_of e) = first_precedes (reads_of f) (map reads_of es) a
    (λ r j. let p = In-reads_from r es j in subst HasKeys p.2 (k p.0 (inr p.1)).keys) (reads_of e) (In-reads e es i) in
    ap (λ b. cond b (Some f) (edge_for (own_letter (reads_of e)) es)) (not_taken (reads_of f) (reads_of e) (k e (inr i)).truths before)
    ∙ edge_found n es (λ g j. k g (inr j)) (rest_ascends (reads_of f) (map reads_of es) a) e i
