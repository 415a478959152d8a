-- The letters of an alphabet, in order, find first what the edges of a state list.
use Rattle.std.proofs.Common.{◌≡◌, ℕ, ◌<◌, ◌≤◌, ℤ, ◌<ℤ◌, ◌≤ℤ◌, Bool, true, false, cond, ◌&&◌, List, [], ◌∷◌, ◌++◌, ◌⊎◌, map, Option, Some, None, option_map, IsTrue, int_le, nat_eq, bit_and, refl, ap, sym, ◌∙◌, subst, inl, inr, arith, true≢false}
use Rattle.std.specs.List.{filter_map, flat_map, cons_option}
use Rattle.std.proofs.lemmas.Int.{ints}
use Rattle.std.proofs.lemmas.List.{map-append}
use Rattle.std.proofs.lemmas.Nat.{and_le_l, and_le_r}
use borrow.Author.Tests.{eqb-true, eq-eqb}
use Rattle.rl_types.specs.declared.numbers.Key.{Key}
use Rattle.rl_types.specs.declared.numbers.Letter.{Letter}
use Rattle.rl_types.specs.declared.alphabet.Alphabet.{Alphabet}
use Rattle.rl_types.specs.Alphabet.{has_key}
use Rattle.rl_types.specs.KeyRange.{Range, in_range}
use Rattle.rl_sets.specs.Sets.{In}
use Rattle.rl_sets.proofs.SetLaws.{In-map, In-map_from}
use Rattle.rl_automata.proofs.Congruence.{none_in, some_in}
use Rattle.rl_fsm.specs.Reads.{Reads, takes, own_letter, ascend}
use Rattle.rl_fsm.proofs.PieceLaws.{le_from, range_is, above_range}
use Rattle.rl_fsm.proofs.Ascending.{Precedes, first_precedes, rest_ascends}
use Rattle.rl_run.specs.Numbers.{firsts, letters_of}
use Rattle.rl_model.specs.Parts.{letter_of}
use Rattle.rl_minimal.specs.declared.state.MinEdge.{MinEdge}
use Rattle.rl_minimal.specs.Minimal.{reads_of}
use Rattle.rl_minimal.specs.Machine.{edge_for}
use Rattle.rl_minimal.specs.Sound.{AreReads}
use Rattle.rl_reach.specs.declared.place.Place.{Place}
use Rattle.rl_reach.specs.Places.{with_place, with_places}
use Rattle.rl_reach.proofs.PlaceLaws.{place_cases, places-append}
use Rattle.rl_reach.proofs.OrderLaws.{firsts_of}
use Rattle.rl_reach.proofs.LetterLaws.{Before, AreOrdered, before_trans, never_before, letters_ordered, letter_there}

-- ---- numbers, as places of one entry

abbrev pub at : ℕ → Place
at n = record { entry = 0; state = n }

-- both lists add the same to all numbers that were met before
abbrev pub AddSame : List ℕ → List ℕ → Type 0
AddSame xs ys = (met : List Place) → with_places met (map at xs) ≡ with_places met (map at ys)

pub firsts_met : (xs : List ℕ) → map (λ (p : Place). p.state) (with_places [] (map at xs)) ≡ firsts xs
firsts_met xs =
    firsts_of (λ (p : Place). p.state) (λ p. p.entry ≡ 0) (λ p q a b e i. record { entry = (a ∙ sym b) i; state = e i }) (map at xs)
    (λ q h. let n = In-map_from at q xs h in ap (λ (p : Place). p.entry) (sym n.2)) ∙ ap firsts (back xs)
  where
    back : (xs : List ℕ) → map (λ (p : Place). p.state) (map at xs) ≡ xs
    back [] = refl
    back (x ∷ xs) = ap (λ w. x ∷ w) (back xs)

flat_same : (f g : ℕ → List ℕ) (order : List ℕ) → ((c : ℕ) → In c order → AddSame (f c) (g c)) → AddSame (flat_map f order) (flat_map g order)
flat_same f g [] h met = refl
flat_same f g (c ∷ order) h met =
    ap (with_places met) (map-append at (f c) (flat_map f order)) ∙ places-append (map at (f c)) met (map at (flat_map f order))
    ∙ ap (λ w. with_places w (map at (flat_map f order))) (h c (inl refl) met) ∙ flat_same f g order (λ d i. h d (inr i)) (with_places met (map at (g c)))
    ∙ sym (ap (with_places met) (map-append at (g c) (flat_map g order)) ∙ places-append (map at (g c)) met (map at (flat_map g order)))

pub firsts_same : (starts : List ℕ) (f g : ℕ → List ℕ) (order : List ℕ) → ((c : ℕ) → In c order → AddSame (f c) (g c)) → firsts (starts ++ flat_map f order) ≡ firsts (starts ++ flat_map g order)
firsts_same starts f g order h =
    sym (firsts_met (starts ++ flat_map f order))
    ∙ ap (map (λ (p : Place). p.state)) (ap (with_places []) (map-append at starts (flat_map f order)) ∙ places-append (map at starts) [] (map at (flat_map f order))
    ∙ flat_same f g order h (with_places [] (map at starts))
    ∙ sym (ap (with_places []) (map-append at starts (flat_map g order)) ∙ places-append (map at starts) [] (map at (flat_map g order))))
    ∙ firsts_met (starts ++ flat_map g order)

pub place_stays : (met : List Place) (p : Place) → In p met → with_place met p ≡ met
place_stays met p h = elim (place_cases met p) [ inl c ↦ c.0 | inr c ↦ absurd (c.1 h) ]

pub place_met : (met : List Place) (p : Place) → In p (with_place met p)
place_met met p = elim (place_cases met p) [ inl c ↦ subst (In p) (sym c.0) c.1 | inr c ↦ subst (In p) (sym c.0) (last met) ]
  where
    last : (xs : List Place) → In p (xs ++ p ∷ [])
    last [] = inl refl
    last (x ∷ xs) = inr (last xs)

pub place_kept : (met : List Place) (p q : Place) → In q met → In q (with_place met p)
place_kept met p q h = elim (place_cases met p) [ inl c ↦ subst (In q) (sym c.0) h | inr c ↦ subst (In q) (sym c.0) (front met h) ]
  where
    front : (xs : List Place) → In q xs → In q (xs ++ p ∷ [])
    front [] i = absurd i
    front (x ∷ xs) (inl e) = inl e
    front (x ∷ xs) (inr i) = inr (front xs i)

-- ---- edges and their letters

split_and : (a b : Bool) → (a && b) ≡ true → (a ≡ true) × (b ≡ true)
split_and true b e = (refl, e)
split_and false b e = absurd (true≢false (sym e))

-- the first key of its range, and its truths
abbrev pub own : MinEdge → Key × ℕ
own e = (record { 0 = e.range.lo }, e.truths.0)

not_below : (x y : ℤ) → x ≤ℤ y → y <ℤ x → ⊥
not_below x y a b = omega (arith, ints)

le_lt_lt : (x y z : ℤ) → x ≤ℤ y → y <ℤ z → x <ℤ z
le_lt_lt x y z a b = omega (arith, ints)

le_self : (x : ℤ) → x ≤ℤ x
le_self x = omega (arith, ints)

-- an edge takes no letter before its own
not_early : (l : Key × ℕ) (e : MinEdge) → takes (letter_of l.0 l.1) (reads_of e) ≡ true → Before l (own e) → ⊥
not_early l e t b =
    let p = split_and (in_range l.0.0 e.range) (nat_eq (bit_and l.1 e.asks.0) e.truths.0) t in
    let q = split_and (int_le e.range.lo l.0.0) (int_le l.0.0 e.range.hi) p.0 in
    by (le_from e.range.lo l.0.0 q.0) (eqb-true (bit_and l.1 e.asks.0) e.truths.0 p.1) b
  where
    by : e.range.lo ≤ℤ l.0.0 → bit_and l.1 e.asks.0 ≡ e.truths.0 → Before l (own e) → ⊥
    by low same (inl a) = not_below e.range.lo l.0.0 low a
    by low same (inr a) =
        let most : bit_and l.1 e.asks.0 ≤ l.1 = and_le_l l.1 e.asks.0 in
        let less : l.1 < e.truths.0 = a.1 in
        omega arith

pub edge_from : (l : Letter) (es : List MinEdge) (e : MinEdge) → edge_for l es ≡ Some e → In e es × (takes l (reads_of e) ≡ true)
edge_from l [] e h = none_in e h
edge_from l (f ∷ es) e h =
    (elim (takes l (reads_of f)) as (λ b. takes l (reads_of f) ≡ b → cond b (Some f) (edge_for l es) ≡ Some e → In e (f ∷ es) × (takes l (reads_of e) ≡ true)) [
      | true ↦ λ t q. let same = some_in f e q in (inl same, subst (λ w. takes l (reads_of w) ≡ true) same t)
      | false ↦ λ t q. let p = edge_from l es e q in (inr p.0, p.1)
    ]) refl h

takes_own : (r : Reads) → r.range.lo ≤ℤ r.range.hi → bit_and r.truths r.asks ≡ r.truths → takes (own_letter r) r ≡ true
takes_own r k t = λ i. (ap (λ b. b && nat_eq (bit_and r.truths r.asks) r.truths) (range_is r.range.lo r.range (le_self r.range.lo) k) ∙ eq-eqb (bit_and r.truths r.asks) r.truths t) i

not_taken : (r s : Reads) → bit_and s.truths s.asks ≡ s.truths → Precedes r s → takes (own_letter s) r ≡ false
not_taken r s t (inl a) = ap (λ b. b && nat_eq (bit_and s.truths r.asks) r.truths) (above_range s.range.lo r.range a)
not_taken r s t (inr a) = ap (λ b. in_range s.range.lo r.range && b) (unequal (bit_and s.truths r.asks) r.truths (ap (bit_and s.truths) a.1 ∙ t) a.2) ∙ and_false (in_range s.range.lo r.range)
  where
    unequal : (x y : ℕ) → x ≡ s.truths → y < s.truths → nat_eq x y ≡ false
    unequal x y e l = (elim (nat_eq x y) as (λ b. nat_eq x y ≡ b → b ≡ false) [ false ↦ λ _. refl | true ↦ λ q. let f : x ≡ y = eqb-true x y q in absurd (omega arith) ]) refl

    and_false : (b : Bool) → (b && false) ≡ false
    and_false true = refl
    and_false false = refl

-- what stands of the edges of a state
pub record AreSorted (es : List MinEdge) : Type 0 where
  pub each : (e : MinEdge) → In e es → AreReads e
  pub ascending : ascend (map reads_of es) ≡ true

rest_sorted : (f : MinEdge) (es : List MinEdge) → AreSorted (f ∷ es) → AreSorted es
rest_sorted f es s = record { each = λ e i. s.each e (inr i); ascending = rest_ascends (reads_of f) (map reads_of es) s.ascending }

precedes : (f : MinEdge) (es : List MinEdge) → AreSorted (f ∷ es) → (e : MinEdge) → In e es → Precedes (reads_of f) (reads_of e)
precedes f es s e i =
    first_precedes (reads_of f) (map reads_of es) s.ascending (λ r j. let p = In-map_from reads_of r es j in subst (λ (w : Reads). w.range.lo ≤ℤ w.range.hi) p.2 (s.each p.0 (inr p.1)).keys) (reads_of e) (In-map reads_of e es i)

pub edge_found : (es : List MinEdge) → AreSorted es → (e : MinEdge) → In e es → edge_for (own_letter (reads_of e)) es ≡ Some e
edge_found [] s e i = absurd i
edge_found (f ∷ es) s e (inl q) =
    let r = s.each f (inl refl) in
    subst (λ w. edge_for (own_letter (reads_of w)) (f ∷ es) ≡ Some w) q (ap (λ b. cond b (Some f) (edge_for (own_letter (reads_of f)) es)) (takes_own (reads_of f) r.keys r.truths))
edge_found (f ∷ es) s e (inr i) =
    ap (λ b. cond b (Some f) (edge_for (own_letter (reads_of e)) es)) (not_taken (reads_of f) (reads_of e) (s.each e (inr i)).truths (precedes f es s e i)) ∙ edge_found es (rest_sorted f es s) e i

pub owns_ordered : (es : List MinEdge) → AreSorted es → AreOrdered (map own es)
owns_ordered [] s = tt
owns_ordered (f ∷ es) s = (
  (λ k i. let p = In-map_from own k es i in subst (Before (own f)) p.2 (by p.0 (precedes f es s p.0 p.1))),
  owns_ordered es (rest_sorted f es s),
)
  where
    by : (e : MinEdge) → Precedes (reads_of f) (reads_of e) → Before (own f) (own e)
    by e (inl a) = inl (le_lt_lt f.range.lo f.range.hi e.range.lo (s.each f (inl refl)).keys a)
    by e (inr a) = inr (ap (λ (r : Range). r.lo) a.0, a.2)

-- ---- what letters find

module _ (es : List MinEdge) where
  abbrev pub hit : Key × ℕ → Option ℕ
  hit l = option_map (λ (e : MinEdge). e.target) (edge_for (letter_of l.0 l.1) es)

  abbrev found_by : List (Key × ℕ) → List Place
  found_by ls = map at (filter_map hit ls)

  abbrev targets : List MinEdge → List Place
  targets todo = map at (map (λ (e : MinEdge). e.target) todo)

  -- a letter before those of all edges that are to come finds nothing new
  passes : (l : Key × ℕ) (ls : List (Key × ℕ)) (done todo : List MinEdge) (met : List Place) → ((e : MinEdge) → In e es → In e done ⊎ In e todo) → ((e : MinEdge) → In e todo → Before l (own e))
      → ((e : MinEdge) → In e done → In (at e.target) met) → with_places met (found_by (l ∷ ls)) ≡ with_places met (found_by ls)
  passes l ls done todo met all later before = by (edge_for (letter_of l.0 l.1) es) refl
    where
      by : (o : Option MinEdge) → edge_for (letter_of l.0 l.1) es ≡ o → with_places met (map at (cons_option (option_map (λ (e : MinEdge). e.target) o) (filter_map hit ls))) ≡ with_places met (found_by ls)
      by None q = refl
      by (Some e) q =
          let p = edge_from (letter_of l.0 l.1) es e q in
          ap (λ w. with_places w (found_by ls)) (place_stays met (at e.target) (elim (all e p.0) [ inl i ↦ before e i | inr i ↦ absurd (not_early l e p.1 (later e i)) ]))

  pub walks : (ls : List (Key × ℕ)) (done todo : List MinEdge) (met : List Place) → AreOrdered ls → AreOrdered (map own todo) → ((e : MinEdge) → In e es → In e done ⊎ In e todo)
      → ((e : MinEdge) → In e todo → edge_for (letter_of (own e).0 (own e).1) es ≡ Some e) → ((e : MinEdge) → In e todo → In (own e) ls) → ((e : MinEdge) → In e done → In (at e.target) met)
      → with_places met (found_by ls) ≡ with_places met (targets todo)
  walks [] done [] met a b all found there before = refl
  walks [] done (h ∷ todo) met a b all found there before = absurd (there h (inl refl))
  walks (l ∷ ls) done [] met a b all found there before = passes l ls done [] met all (λ e z. absurd z) before ∙ walks ls done [] met a.1 b all found (λ e z. absurd z) before
  walks (l ∷ ls) done (h ∷ todo) met a b all found there before = elim (there h (inl refl)) [
    | inl q ↦
        ap (λ o. with_places met (map at (cons_option (option_map (λ (e : MinEdge). e.target) o) (filter_map hit ls)))) (subst (λ k. edge_for (letter_of k.0 k.1) es ≡ Some h) (sym q) (found h (inl refl)))
        ∙ walks ls (h ∷ done) todo (with_place met (at h.target)) a.1 b.1 moved (λ e i. found e (inr i)) (λ e i. behind q e i (there e (inr i))) kept
    | inr i ↦ passes l ls done (h ∷ todo) met all (λ e j. later i e j) before ∙ walks ls done (h ∷ todo) met a.1 b all found (λ e j. in_rest i e j (there e j)) before
  ]
    where
      moved : (e : MinEdge) → In e es → In e (h ∷ done) ⊎ In e todo
      moved e i = by (all e i)
        where
          by : In e done ⊎ In e (h ∷ todo) → In e (h ∷ done) ⊎ In e todo
          by (inl j) = inl (inr j)
          by (inr (inl p)) = inl (inl p)
          by (inr (inr j)) = inr j

      kept : (e : MinEdge) → In e (h ∷ done) → In (at e.target) (with_place met (at h.target))
      kept e (inl p) = subst (λ (w : MinEdge). In (at w.target) (with_place met (at h.target))) p (place_met met (at h.target))
      kept e (inr j) = place_kept met (at h.target) (at e.target) (before e j)

      behind : l ≡ own h → (e : MinEdge) → In e todo → In (own e) (l ∷ ls) → In (own e) ls
      behind q e i (inl p) = absurd (never_before (own h) (subst (Before (own h)) (sym p ∙ q) (b.0 (own e) (In-map own e todo i))))
      behind q e i (inr j) = j

      later : In (own h) ls → (e : MinEdge) → In e (h ∷ todo) → Before l (own e)
      later i e (inl p) = subst (λ w. Before l (own w)) p (a.0 (own h) i)
      later i e (inr j) = before_trans l (own h) (own e) (a.0 (own h) i) (b.0 (own e) (In-map own e todo j))

      in_rest : In (own h) ls → (e : MinEdge) → In e (h ∷ todo) → In (own e) (l ∷ ls) → In (own e) ls
      in_rest i e j (inl p) = absurd (never_before l (subst (Before l) (sym p) (later i e j)))
      in_rest i e j (inr k) = k

  -- the letters of an alphabet find the targets of the edges in their order
  pub letters_find : (alphabet : Alphabet) → AreSorted es → ((e : MinEdge) → In e es → IsTrue (has_key alphabet e.range.lo)) → AddSame (map (λ (e : MinEdge). e.target) es) (filter_map hit (letters_of alphabet))
  letters_find alphabet s keys met =
      sym (walks (letters_of alphabet) [] es met (letters_ordered alphabet) (owns_ordered es s) (λ e i. inr i) (edge_found es s) there (λ e z. absurd z))
    where
      few : (t a : ℕ) → bit_and t a ≡ t → a < 256 → t < 256
      few t a e h = let most : bit_and t a ≤ a = and_le_r t a in omega arith

      there : (e : MinEdge) → In e es → In (own e) (letters_of alphabet)
      there e i = let r = s.each e i in letter_there alphabet e.range.lo e.truths.0 (keys e i) (few e.truths.0 e.asks.0 r.truths r.asks)
