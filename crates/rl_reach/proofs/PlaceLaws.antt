-- Places that are found one after another, each once.
use Rattle.std.proofs.Common.{◌≡◌, ℕ, zero, suc, ◌+◌, Bool, true, false, cond, not, ◌&&◌, List, [], ◌∷◌, ◌++◌, ◌⊎◌, ◌↔◌, map, length, Some, None, IsTrue, slice_get, nat_eq, refl, ap, sym, ◌∙◌, subst, inl, inr, arith, append_assoc, append-nil, true≢false, drop, add-one}
use Rattle.std.specs.List.{filter, list_any, position_or_len, range_with_len}
use Rattle.std.specs.Option.{option_map_or}
use Rattle.std.proofs.lemmas.List.Filters.{length-filter_both}
use borrow.Author.Tests.{lt-ltb, eqb-true, eq-eqb}
use Rattle.rl_sets.specs.Sets.{In}
use Rattle.rl_sets.proofs.SetLaws.{In-append_left, In-append_right, In-append_cases, In-filter, In-filter_from, any_true, any_from}
use Rattle.rl_automata.specs.Refused.{AreDifferent}
use Rattle.rl_automata.proofs.Congruence.{some_in, none_in}
use Rattle.rl_explore.specs.Numbers.{Extends}
use Rattle.rl_explore.proofs.NumberLaws.{get_below, get_In, different_push, different_same, extends_refl, extends_trans}
use Rattle.std.proofs.lemmas.List.{length-append}
use Rattle.rl_reach.specs.declared.place.Place.{Place}
use Rattle.rl_reach.specs.Places.{same_place, with_place, with_places, number_in}

and_both : (a b : Bool) → (a && b) ≡ true → (a ≡ true) × (b ≡ true)
and_both true b e = (refl, e)
and_both false b e = absurd (true≢false (sym e))

pub same_is : (p q : Place) → IsTrue (same_place p q) ↔ (p ≡ q)
same_is p q = (
  (λ t.
      let h = and_both (nat_eq p.entry q.entry) (nat_eq p.state q.state) t in
      let e = eqb-true p.entry q.entry h.0 in
      let s = eqb-true p.state q.state h.1 in
      λ i. record { entry = e i; state = s i }),
  (λ e. subst (λ r. same_place p r ≡ true) e (λ i. eq-eqb p.entry p.entry refl i && eq-eqb p.state p.state refl i)),
)

-- ---- one more place

-- it was there, or it stands behind the others
abbrev Cases : List Place → Place → Type 0
Cases xs p = (with_place xs p ≡ xs) × In p xs ⊎ (with_place xs p ≡ xs ++ p ∷ []) × ¬ In p xs

pub place_cases : (xs : List Place) (p : Place) → Cases xs p
place_cases xs p = by (list_any (same_place p) xs) refl
  where
    by : (b : Bool) → list_any (same_place p) xs ≡ b → Cases xs p
    by true e =
        let m = any_from (same_place p) xs e in
        inl (ap (λ b. cond b xs (xs ++ p ∷ [])) e, subst (λ q. In q xs) (sym ((same_is p m.0).0 m.2)) m.1)
    by false e =
        inr (ap (λ b. cond b xs (xs ++ p ∷ [])) e, λ h. true≢false (sym (any_true (same_place p) p xs h ((same_is p p).1 refl)) ∙ e))

place_differs : (xs : List Place) (p : Place) → AreDifferent xs → AreDifferent (with_place xs p)
place_differs xs p d = elim (place_cases xs p) [
  | inl c ↦ subst AreDifferent (sym c.0) d
  | inr c ↦ subst AreDifferent (sym c.0) (different_push xs p c.1 d)
]

place_extends : (xs : List Place) (p : Place) → Extends xs (with_place xs p)
place_extends xs p = elim (place_cases xs p) [
  | inl c ↦ ([], c.0 ∙ sym (append-nil xs))
  | inr c ↦ (p ∷ [], c.0)
]

place_in : (xs : List Place) (p : Place) → In p (with_place xs p)
place_in xs p = elim (place_cases xs p) [
  | inl c ↦ subst (In p) (sym c.0) c.1
  | inr c ↦ subst (In p) (sym c.0) (In-append_right p xs (p ∷ []) (inl refl))
]

place_from : (xs : List Place) (p q : Place) → In q (with_place xs p) → In q xs ⊎ (p ≡ q)
place_from xs p q h = elim (place_cases xs p) [
  | inl c ↦ inl (subst (In q) c.0 h)
  | inr c ↦ by (In-append_cases q xs (p ∷ []) (subst (In q) c.0 h))
]
  where
    by : In q xs ⊎ In q (p ∷ []) → In q xs ⊎ (p ≡ q)
    by (inl i) = inl i
    by (inr (inl e)) = inr e
    by (inr (inr z)) = absurd z

-- ---- more places

pub places_differ : (more xs : List Place) → AreDifferent xs → AreDifferent (with_places xs more)
places_differ [] xs d = d
places_differ (p ∷ more) xs d = places_differ more (with_place xs p) (place_differs xs p d)

pub places_extend : (more xs : List Place) → Extends xs (with_places xs more)
places_extend [] xs = extends_refl xs
places_extend (p ∷ more) xs = extends_trans xs (with_place xs p) (with_places (with_place xs p) more) (place_extends xs p) (places_extend more (with_place xs p))

pub places_keep : (more xs : List Place) (q : Place) → In q xs → In q (with_places xs more)
places_keep more xs q h = let e = places_extend more xs in subst (In q) (sym e.1) (In-append_left q xs e.0 h)

pub places_in : (more xs : List Place) (q : Place) → In q more → In q (with_places xs more)
places_in [] xs q h = absurd h
places_in (p ∷ more) xs q (inl e) = places_keep more (with_place xs p) q (subst (λ w. In w (with_place xs p)) e (place_in xs p))
places_in (p ∷ more) xs q (inr h) = places_in more (with_place xs p) q h

pub places_from : (more xs : List Place) (q : Place) → In q (with_places xs more) → In q xs ⊎ In q more
places_from [] xs q h = inl h
places_from (p ∷ more) xs q h = elim (places_from more (with_place xs p) q h) [
  | inl i ↦ elim (place_from xs p q i) [ inl j ↦ inl j | inr e ↦ inr (inl e) ]
  | inr i ↦ inr (inr i)
]

pub places-append : (more xs ys : List Place) → with_places xs (more ++ ys) ≡ with_places (with_places xs more) ys
places-append [] xs ys = refl
places-append (p ∷ more) xs ys = places-append more (with_place xs p) ys

-- ---- different places stay as they are

apart_front : (xs ys : List Place) (y : Place) → AreDifferent (xs ++ y ∷ ys) → ¬ In y xs
apart_front [] ys y d h = h
apart_front (x ∷ xs) ys y d (inl e) = d.0 (subst (λ w. In w (xs ++ y ∷ ys)) (sym e) (In-append_right y xs (y ∷ ys) (inl refl)))
apart_front (x ∷ xs) ys y d (inr h) = apart_front xs ys y d.1 h

new_place : (xs : List Place) (p : Place) → ¬ In p xs → with_place xs p ≡ xs ++ p ∷ []
new_place xs p n = elim (place_cases xs p) [ inl c ↦ absurd (n c.1) | inr c ↦ c.0 ]

pub different_stay : (ys xs : List Place) → AreDifferent (xs ++ ys) → with_places xs ys ≡ xs ++ ys
different_stay [] xs d = sym (append-nil xs)
different_stay (y ∷ ys) xs d =
    ap (λ w. with_places w ys) (new_place xs y (apart_front xs ys y d))
    ∙ different_stay ys (xs ++ y ∷ []) (subst AreDifferent (sym (append_assoc xs (y ∷ []) ys)) d)
    ∙ append_assoc xs (y ∷ []) ys

pub different_filter : (test : Place → Bool) (xs : List Place) → AreDifferent xs → AreDifferent (filter test xs)
different_filter test [] d = tt
different_filter test (x ∷ xs) d = elim (test x) as (λ b. AreDifferent (cond b (x ∷ filter test xs) (filter test xs))) [
  | true ↦ ((λ h. d.0 (In-filter_from test x xs h).0), different_filter test xs d.1)
  | false ↦ different_filter test xs d.1
]

different_append : (xs ys : List Place) → AreDifferent xs → AreDifferent ys → ((p : Place) → In p xs → In p ys → ⊥) → AreDifferent (xs ++ ys)
different_append [] ys d e n = e
different_append (x ∷ xs) ys d e n = (
  (λ h. by (In-append_cases x xs ys h)),
  different_append xs ys d.1 e (λ p i j. n p (inr i) j),
)
  where
    by : In x xs ⊎ In x ys → ⊥
    by (inl i) = d.0 i
    by (inr j) = n x (inl refl) j

not_true : (b : Bool) → not b ≡ true → b ≡ true → ⊥
not_true true e f = true≢false (sym e)
not_true false e f = true≢false (sym f)

-- those that do not pass, and then those that do
module _ (test : Place → Bool) (xs : List Place) where
  abbrev halves : List Place
  halves = filter (λ p. not (test p)) xs ++ filter test xs

  pub halves_differ : AreDifferent xs → AreDifferent halves
  halves_differ d =
      different_append (filter (λ p. not (test p)) xs) (filter test xs) (different_filter (λ p. not (test p)) xs d) (different_filter test xs d)
      (λ p i j. not_true (test p) (In-filter_from (λ p. not (test p)) p xs i).1 (In-filter_from test p xs j).1)

  pub halves_in : (p : Place) → In p xs → In p halves
  halves_in p h = by (test p) refl
    where
      by : (b : Bool) → test p ≡ b → In p halves
      by true e = In-append_right p (filter (λ p. not (test p)) xs) (filter test xs) (In-filter test p xs h e)
      by false e = In-append_left p (filter (λ p. not (test p)) xs) (filter test xs) (In-filter (λ p. not (test p)) p xs h (ap not e))

  pub halves_from : (p : Place) → In p halves → In p xs
  halves_from p h = elim (In-append_cases p (filter (λ p. not (test p)) xs) (filter test xs) h) [
    | inl i ↦ (In-filter_from (λ p. not (test p)) p xs i).0
    | inr i ↦ (In-filter_from test p xs i).0
  ]

  pub halves_length : length halves ≡ length xs
  halves_length =
      length-append (filter (λ p. not (test p)) xs) (filter test xs) ∙ swap (length (filter (λ p. not (test p)) xs)) (length (filter test xs)) (length xs) (length-filter_both test (λ p. not (test p)) (λ p. refl) xs)
    where
      swap : (a b c : ℕ) → b + a ≡ c → a + b ≡ c
      swap a b c e = omega arith

-- ---- numbers

at_position : (xs : List Place) (p : Place) → In p xs → slice_get xs (position_or_len (same_place p) xs) ≡ Some p
at_position [] p h = absurd h
at_position (x ∷ xs) p h =
    (elim (same_place p x) as (λ b. same_place p x ≡ b → slice_get (x ∷ xs) (cond (not b) (1 + position_or_len (same_place p) xs) 0) ≡ Some p) [
      | true ↦ λ e. ap Some (sym ((same_is p x).0 e))
      | false ↦ λ e. ap (slice_get (x ∷ xs)) (next (position_or_len (same_place p) xs)) ∙ at_position xs p (behind e h)
    ]) refl
  where
    next : (n : ℕ) → 1 + n ≡ suc n
    next n = omega arith

    behind : same_place p x ≡ false → In p (x ∷ xs) → In p xs
    behind e (inl q) = absurd (true≢false (sym ((same_is p x).1 (sym q)) ∙ e))
    behind e (inr i) = i

pub number_there : (xs : List Place) (p : Place) → In p xs → (k : ℕ) × (slice_get xs k ≡ Some p) × (number_in xs p ≡ suc k)
number_there xs p h =
    let at = at_position xs p h in (
      position_or_len (same_place p) xs,
      at,
      ap (λ b. option_map_or suc (cond b (Some (position_or_len (same_place p) xs)) None) 0) (lt-ltb (position_or_len (same_place p) xs) (length xs) (get_below xs (position_or_len (same_place p) xs) p at)),
    )

pub number_at : (xs : List Place) (k : ℕ) (p : Place) → AreDifferent xs → slice_get xs k ≡ Some p → number_in xs p ≡ suc k
number_at xs k p d e = let n = number_there xs p (get_In xs k p e) in n.2 ∙ ap suc (different_same xs n.0 k p d n.1 e)

pub number_apart : (xs : List Place) (p q : Place) → In p xs → In q xs → number_in xs p ≡ number_in xs q → p ≡ q
number_apart xs p q h i e =
    let m = number_there xs p h in
    let n = number_there xs q i in
    let same : m.0 ≡ n.0 = let a = m.2 in let b = n.2 in omega arith in
    some_in p q (sym m.1 ∙ ap (slice_get xs) same ∙ n.1)

counted_from : (f : Place → ℕ) (a : ℕ) (ys : List Place) → ((k : ℕ) (p : Place) → slice_get ys k ≡ Some p → f p ≡ a + k) → map f ys ≡ range_with_len a (length ys)
counted_from f a [] h = refl
counted_from f a (y ∷ ys) h =
    let first : f y ≡ a = h zero y refl ∙ none a in
    λ i. first i ∷ counted_from f (a + 1) ys (λ k p e. h (suc k) p e ∙ next a k) i
  where
    none : (a : ℕ) → a + 0 ≡ a
    none a = omega arith

    next : (a k : ℕ) → a + suc k ≡ (a + 1) + k
    next a k = omega arith

-- the numbers count from 1
pub numbers_count : (xs : List Place) → AreDifferent xs → map (number_in xs) xs ≡ range_with_len 1 (length xs)
numbers_count xs d = counted_from (number_in xs) 1 xs (λ k p e. number_at xs k p d e ∙ one k)
  where
    one : (k : ℕ) → suc k ≡ 1 + k
    one k = omega arith

-- ---- a half of the places, found one after another

get_drop : (xs : List Place) (i : ℕ) (p : Place) → slice_get xs i ≡ Some p → drop i xs ≡ p ∷ drop (suc i) xs
get_drop [] i p e = none_in p e
get_drop (x ∷ xs) zero p e = ap (λ w. w ∷ xs) (some_in x p e)
get_drop (x ∷ xs) (suc i) p e = get_drop xs i p e

pub half_more : (test : Place → Bool) (xs found next : List Place) (i : ℕ) (p : Place) → slice_get xs i ≡ Some p → next ≡ cond (test p) (with_place found p) found
    → with_places found (filter test (drop i xs)) ≡ with_places next (filter test (drop (i + 1) xs))
half_more test xs found next i p at e =
    ap (λ r. with_places found (filter test r)) (get_drop xs i p at) ∙ by (test p) (filter test (drop (suc i) xs)) ∙ ap (λ n. with_places n (filter test (drop (suc i) xs))) (sym e)
    ∙ ap (λ n. with_places next (filter test (drop n xs))) (sym (add-one i))
  where
    by : (b : Bool) (rest : List Place) → with_places found (cond b (p ∷ rest) rest) ≡ with_places (cond b (with_place found p) found) rest
    by true rest = refl
    by false rest = refl
