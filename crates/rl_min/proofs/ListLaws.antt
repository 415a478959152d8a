-- Numbers that are found one after another, each once.
use Rattle.std.proofs.Common.{◌≡◌, ℕ, zero, suc, ◌+◌, ◌<◌, ◌≤◌, Bool, true, false, cond, not, List, [], ◌∷◌, ◌++◌, ◌⊎◌, map, length, Some, None, slice_get, nat_eq, refl, ap, sym, ◌∙◌, subst, inl, inr, arith, append_assoc, append-nil, true≢false, length-append, unwrap_or}
use Rattle.std.specs.List.{filter, flat_map, list_any, position_or_len, range_with_len}
use Rattle.std.proofs.lemmas.List.{map-append}
use Rattle.std.proofs.lemmas.List.Filters.{length-filter_both}
use borrow.Author.Tests.{lt-ltb, eqb-true, eq-eqb}
use Rattle.rl_sets.specs.Sets.{In}
use Rattle.rl_sets.proofs.SetLaws.{In-append_left, In-append_right, In-append_cases, In-filter, In-filter_from, In-flat_map, In-map_from, any_true, any_from}
use Rattle.rl_automata.specs.Refused.{AreDifferent}
use Rattle.rl_automata.proofs.Congruence.{some_in}
use Rattle.rl_explore.specs.Numbers.{Extends}
use Rattle.rl_explore.proofs.NumberLaws.{get_below, get_In, different_push, different_same, extends_refl, extends_trans}
use Rattle.rl_run.specs.Numbers.{firsts}
use Rattle.rl_reach.proofs.TargetLaws.{firsts_by}
use Rattle.rl_min.specs.Numbering.{with_class, with_classes, number_in}

-- ---- one more

-- it was there, or it stands behind the others
abbrev Cases : List ℕ → ℕ → Type 0
Cases xs x = (with_class xs x ≡ xs) × In x xs ⊎ (with_class xs x ≡ xs ++ x ∷ []) × ¬ In x xs

pub class_cases : (xs : List ℕ) (x : ℕ) → Cases xs x
class_cases xs x = by (list_any (nat_eq x) xs) refl
  where
    by : (b : Bool) → list_any (nat_eq x) xs ≡ b → Cases xs x
    by true e =
        let m = any_from (nat_eq x) xs e in
        inl (ap (λ b. cond b xs (xs ++ x ∷ [])) e, subst (λ y. In y xs) (sym (eqb-true x m.0 m.2)) m.1)
    by false e =
        inr (ap (λ b. cond b xs (xs ++ x ∷ [])) e, λ h. true≢false (sym (any_true (nat_eq x) x xs h (eq-eqb x x refl)) ∙ e))

stay : (xs : List ℕ) (x : ℕ) → In x xs → with_class xs x ≡ xs
stay xs x h = elim (class_cases xs x) [ inl c ↦ c.0 | inr c ↦ absurd (c.1 h) ]

pub new : (xs : List ℕ) (x : ℕ) → ¬ In x xs → with_class xs x ≡ xs ++ x ∷ []
new xs x n = elim (class_cases xs x) [ inl c ↦ absurd (n c.1) | inr c ↦ c.0 ]

class_differs : (xs : List ℕ) (x : ℕ) → AreDifferent xs → AreDifferent (with_class xs x)
class_differs xs x d = elim (class_cases xs x) [
  | inl c ↦ subst AreDifferent (sym c.0) d
  | inr c ↦ subst AreDifferent (sym c.0) (different_push xs x c.1 d)
]

class_extends : (xs : List ℕ) (x : ℕ) → Extends xs (with_class xs x)
class_extends xs x = elim (class_cases xs x) [
  | inl c ↦ ([], c.0 ∙ sym (append-nil xs))
  | inr c ↦ (x ∷ [], c.0)
]

class_in : (xs : List ℕ) (x : ℕ) → In x (with_class xs x)
class_in xs x = elim (class_cases xs x) [
  | inl c ↦ subst (In x) (sym c.0) c.1
  | inr c ↦ subst (In x) (sym c.0) (In-append_right x xs (x ∷ []) (inl refl))
]

class_from : (xs : List ℕ) (x y : ℕ) → In y (with_class xs x) → In y xs ⊎ (x ≡ y)
class_from xs x y h = elim (class_cases xs x) [
  | inl c ↦ inl (subst (In y) c.0 h)
  | inr c ↦ by (In-append_cases y xs (x ∷ []) (subst (In y) c.0 h))
]
  where
    by : In y xs ⊎ In y (x ∷ []) → In y xs ⊎ (x ≡ y)
    by (inl i) = inl i
    by (inr (inl e)) = inr e
    by (inr (inr z)) = absurd z

-- ---- more

pub differ : (more xs : List ℕ) → AreDifferent xs → AreDifferent (with_classes xs more)
differ [] xs d = d
differ (x ∷ more) xs d = differ more (with_class xs x) (class_differs xs x d)

pub extend : (more xs : List ℕ) → Extends xs (with_classes xs more)
extend [] xs = extends_refl xs
extend (x ∷ more) xs = extends_trans xs (with_class xs x) (with_classes (with_class xs x) more) (class_extends xs x) (extend more (with_class xs x))

pub kept : (more xs : List ℕ) (y : ℕ) → In y xs → In y (with_classes xs more)
kept more xs y h = let e = extend more xs in subst (In y) (sym e.1) (In-append_left y xs e.0 h)

pub added : (more xs : List ℕ) (y : ℕ) → In y more → In y (with_classes xs more)
added [] xs y h = absurd h
added (x ∷ more) xs y (inl e) = kept more (with_class xs x) y (subst (λ w. In w (with_class xs x)) e (class_in xs x))
added (x ∷ more) xs y (inr h) = added more (with_class xs x) y h

pub added_from : (more xs : List ℕ) (y : ℕ) → In y (with_classes xs more) → In y xs ⊎ In y more
added_from [] xs y h = inl h
added_from (x ∷ more) xs y h = elim (added_from more (with_class xs x) y h) [
  | inl i ↦ elim (class_from xs x y i) [ inl j ↦ inl j | inr e ↦ inr (inl e) ]
  | inr i ↦ inr (inr i)
]

pub with-append : (more xs ys : List ℕ) → with_classes xs (more ++ ys) ≡ with_classes (with_classes xs more) ys
with-append [] xs ys = refl
with-append (x ∷ more) xs ys = with-append more (with_class xs x) ys

stays : (more xs : List ℕ) → ((y : ℕ) → In y more → In y xs) → with_classes xs more ≡ xs
stays [] xs h = refl
stays (x ∷ more) xs h = ap (λ w. with_classes w more) (stay xs x (h x (inl refl))) ∙ stays more xs (λ y i. h y (inr i))

pub few : (more xs : List ℕ) → length (with_classes xs more) ≤ length xs + length more
few [] xs = omega arith
few (x ∷ more) xs = elim (class_cases xs x) [
  | inl c ↦ let n : length (with_class xs x) ≡ length xs = ap length c.0 in let r = few more (with_class xs x) in by (length (with_class xs x)) n r
  | inr c ↦ let n : length (with_class xs x) ≡ length xs + 1 = ap length c.0 ∙ length-append xs (x ∷ []) in let r = few more (with_class xs x) in up (length (with_class xs x)) n r
]
  where
    by : (n : ℕ) → n ≡ length xs → length (with_classes (with_class xs x) more) ≤ n + length more → length (with_classes (with_class xs x) more) ≤ length xs + length (x ∷ more)
    by n e r = omega arith

    up : (n : ℕ) → n ≡ length xs + 1 → length (with_classes (with_class xs x) more) ≤ n + length more → length (with_classes (with_class xs x) more) ≤ length xs + length (x ∷ more)
    up n e r = omega arith

-- ---- what is listed for each

flat_last : (g : ℕ → List ℕ) (xs : List ℕ) (y : ℕ) → flat_map g (xs ++ y ∷ []) ≡ flat_map g xs ++ g y
flat_last g [] y = append-nil (g y)
flat_last g (x ∷ xs) y = ap (λ w. g x ++ w) (flat_last g xs y) ∙ sym (append_assoc (g x) (flat_map g xs) (g y))

-- those of one that was met before add nothing
pub flat_once : (g : ℕ → List ℕ) (ys done acc : List ℕ) → with_classes acc (flat_map g (with_classes done ys)) ≡ with_classes (with_classes acc (flat_map g done)) (flat_map g ys)
flat_once g [] done acc = refl
flat_once g (y ∷ ys) done acc = elim (class_cases done y) [
  | inl c ↦
      ap (λ w. with_classes acc (flat_map g (with_classes w ys))) c.0 ∙ flat_once g ys done acc
      ∙ ap (λ w. with_classes w (flat_map g ys)) (sym (stays (g y) (with_classes acc (flat_map g done)) (λ z i. added (flat_map g done) acc z (In-flat_map g z y done c.1 i))))
      ∙ sym (with-append (g y) (with_classes acc (flat_map g done)) (flat_map g ys))
  | inr c ↦
      ap (λ w. with_classes acc (flat_map g (with_classes w ys))) c.0 ∙ flat_once g ys (done ++ y ∷ []) acc
      ∙ ap (λ w. with_classes w (flat_map g ys)) (ap (with_classes acc) (flat_last g done y) ∙ with-append (flat_map g done) acc (g y))
      ∙ sym (with-append (g y) (with_classes acc (flat_map g done)) (flat_map g ys))
]

each_one : (c : ℕ → ℕ) (xs : List ℕ) → flat_map (λ x. c x ∷ []) xs ≡ map c xs
each_one c [] = refl
each_one c (x ∷ xs) = ap (λ w. c x ∷ w) (each_one c xs)

pub map_once : (c : ℕ → ℕ) (xs : List ℕ) → with_classes [] (map c (with_classes [] xs)) ≡ with_classes [] (map c xs)
map_once c xs =
    ap (with_classes []) (sym (each_one c (with_classes [] xs))) ∙ flat_once (λ x. c x ∷ []) xs [] [] ∙ ap (with_classes []) (each_one c xs)

-- ---- filters

filter_last : (p : ℕ → Bool) (xs : List ℕ) (y : ℕ) → filter p (xs ++ y ∷ []) ≡ filter p xs ++ cond (p y) (y ∷ []) []
filter_last p [] y = refl
filter_last p (x ∷ xs) y = elim (p x) as (λ b. cond b (x ∷ filter p (xs ++ y ∷ [])) (filter p (xs ++ y ∷ [])) ≡ cond b (x ∷ filter p xs) (filter p xs) ++ cond (p y) (y ∷ []) []) [
  | true ↦ ap (λ w. x ∷ w) (filter_last p xs y)
  | false ↦ filter_last p xs y
]

filter_one : (p : ℕ → Bool) (acc : List ℕ) (x : ℕ) → filter p (with_class acc x) ≡ cond (p x) (with_class (filter p acc) x) (filter p acc)
filter_one p acc x = by (p x) refl (class_cases acc x)
  where
    by : (b : Bool) → p x ≡ b → Cases acc x → filter p (with_class acc x) ≡ cond b (with_class (filter p acc) x) (filter p acc)
    by true e (inl c) = ap (filter p) c.0 ∙ sym (stay (filter p acc) x (In-filter p x acc c.1 e))
    by true e (inr c) =
        ap (filter p) c.0 ∙ filter_last p acc x ∙ ap (λ b. filter p acc ++ cond b (x ∷ []) []) e
        ∙ sym (new (filter p acc) x (λ i. c.1 (In-filter_from p x acc i).0))
    by false e (inl c) = ap (filter p) c.0
    by false e (inr c) = ap (filter p) c.0 ∙ filter_last p acc x ∙ ap (λ b. filter p acc ++ cond b (x ∷ []) []) e ∙ append-nil (filter p acc)

pub filter_with : (p : ℕ → Bool) (xs acc : List ℕ) → filter p (with_classes acc xs) ≡ with_classes (filter p acc) (filter p xs)
filter_with p [] acc = refl
filter_with p (x ∷ xs) acc = filter_with p xs (with_class acc x) ∙ ap (λ w. with_classes w (filter p xs)) (filter_one p acc x) ∙ by (p x)
  where
    by : (b : Bool) → with_classes (cond b (with_class (filter p acc) x) (filter p acc)) (filter p xs) ≡ with_classes (filter p acc) (cond b (x ∷ filter p xs) (filter p xs))
    by true = refl
    by false = refl

-- ---- apart

-- what is not among the first ones is found as if they were not there
pub behind_on : (ys acc more : List ℕ) → ((y : ℕ) → In y ys → ¬ In y acc) → with_classes (acc ++ more) ys ≡ acc ++ with_classes more ys
behind_on [] acc more h = refl
behind_on (y ∷ ys) acc more h = elim (class_cases more y) [
  | inl c ↦
      ap (λ w. with_classes w ys) (stay (acc ++ more) y (In-append_right y acc more c.1)) ∙ behind_on ys acc more (λ z i. h z (inr i))
      ∙ ap (λ w. acc ++ with_classes w ys) (sym c.0)
  | inr c ↦
      ap (λ w. with_classes w ys) (new (acc ++ more) y (λ i. elim (In-append_cases y acc more i) [ inl a ↦ h y (inl refl) a | inr b ↦ c.1 b ]) ∙ append_assoc acc more (y ∷ []))
      ∙ behind_on ys acc (more ++ y ∷ []) (λ z i. h z (inr i)) ∙ ap (λ w. acc ++ with_classes w ys) (sym c.0)
]

pub behind : (ys acc : List ℕ) → ((y : ℕ) → In y ys → ¬ In y acc) → with_classes acc ys ≡ acc ++ with_classes [] ys
behind ys acc h = ap (λ w. with_classes w ys) (sym (append-nil acc)) ∙ behind_on ys acc [] h

-- ---- numbers in a row

range_on : (n a : ℕ) (acc : List ℕ) → ((x : ℕ) → In x acc → x < a) → with_classes acc (range_with_len a n) ≡ acc ++ range_with_len a n
range_on zero a acc h = sym (append-nil acc)
range_on (suc n) a acc h =
    ap (λ w. with_classes w (range_with_len (a + 1) n)) (new acc a (λ i. let l : a < a = h a i in absurd (omega arith)))
    ∙ range_on n (a + 1) (acc ++ a ∷ []) more
    ∙ append_assoc acc (a ∷ []) (range_with_len (a + 1) n)
  where
    more : (x : ℕ) → In x (acc ++ a ∷ []) → x < a + 1
    more x i = by (In-append_cases x acc (a ∷ []) i)
      where
        by : In x acc ⊎ In x (a ∷ []) → x < a + 1
        by (inl j) = let l : x < a = h x j in omega arith
        by (inr (inl e)) = let s : a ≡ x = e in omega arith
        by (inr (inr z)) = absurd z

pub range_stays : (n a : ℕ) → with_classes [] (range_with_len a n) ≡ range_with_len a n
range_stays n a = range_on n a [] (λ x i. absurd i)

-- ---- the numbers of what is listed

at_position : (xs : List ℕ) (x : ℕ) → In x xs → slice_get xs (position_or_len (nat_eq x) xs) ≡ Some x
at_position [] x h = absurd h
at_position (y ∷ xs) x h =
    (elim (nat_eq x y) as (λ b. nat_eq x y ≡ b → slice_get (y ∷ xs) (cond (not b) (1 + position_or_len (nat_eq x) xs) 0) ≡ Some x) [
      | true ↦ λ e. ap Some (sym (eqb-true x y e))
      | false ↦ λ e. ap (slice_get (y ∷ xs)) (next (position_or_len (nat_eq x) xs)) ∙ at_position xs x (later e h)
    ]) refl
  where
    next : (n : ℕ) → 1 + n ≡ suc n
    next n = omega arith

    later : nat_eq x y ≡ false → In x (y ∷ xs) → In x xs
    later e (inl q) = absurd (true≢false (sym (eq-eqb x y (sym q)) ∙ e))
    later e (inr i) = i

pub number_there : (xs : List ℕ) (x : ℕ) → In x xs → slice_get xs (number_in xs x) ≡ Some x
number_there xs x h =
    let found = at_position xs x h in
    let k = position_or_len (nat_eq x) xs in
    ap (λ b. slice_get xs (unwrap_or (cond b (Some k) None) 0)) (lt-ltb k (length xs) (get_below xs k x found)) ∙ found

pub number_of : (xs : List ℕ) (k x : ℕ) → AreDifferent xs → slice_get xs k ≡ Some x → number_in xs x ≡ k
number_of xs k x d e = different_same xs (number_in xs x) k x d (number_there xs x (get_In xs k x e)) e

pub number_apart : (xs : List ℕ) (x y : ℕ) → In x xs → In y xs → number_in xs x ≡ number_in xs y → x ≡ y
number_apart xs x y h i e = some_in x y (sym (number_there xs x h) ∙ ap (slice_get xs) e ∙ number_there xs y i)

pub count_from : (f : ℕ → ℕ) (a : ℕ) (ys : List ℕ) → ((k x : ℕ) → slice_get ys k ≡ Some x → f x ≡ a + k) → map f ys ≡ range_with_len a (length ys)
count_from f a [] h = refl
count_from f a (y ∷ ys) h =
    let first : f y ≡ a = h zero y refl ∙ none a in
    λ i. first i ∷ count_from f (a + 1) ys (λ k x e. h (suc k) x e ∙ next a k) i
  where
    none : (a : ℕ) → a + 0 ≡ a
    none a = omega arith

    next : (a k : ℕ) → a + suc k ≡ (a + 1) + k
    next a k = omega arith

pub range_maps : (f : ℕ → ℕ) (a : ℕ) (xs : List ℕ) → ((k x : ℕ) → slice_get xs k ≡ Some x → f (a + k) ≡ x) → map f (range_with_len a (length xs)) ≡ xs
range_maps f a [] h = refl
range_maps f a (x ∷ xs) h =
    let z : a ≡ a + 0 = omega arith in
    let first : f a ≡ x = ap f z ∙ h zero x refl in
    λ i. first i ∷ range_maps f (a + 1) xs (λ k y e. ap f (next a k) ∙ h (suc k) y e) i
  where
    next : (a k : ℕ) → (a + 1) + k ≡ a + suc k
    next a k = omega arith

pub filter_map_same : (c : ℕ → ℕ) (test other : ℕ → Bool) (xs : List ℕ) → ((x : ℕ) → In x xs → test (c x) ≡ other x) → filter test (map c xs) ≡ map c (filter other xs)
filter_map_same c test other [] h = refl
filter_map_same c test other (x ∷ xs) h =
    ap (λ b. cond b (c x ∷ filter test (map c xs)) (filter test (map c xs))) (h x (inl refl))
    ∙ (elim (other x) as (λ b. cond b (c x ∷ filter test (map c xs)) (filter test (map c xs)) ≡ map c (cond b (x ∷ filter other xs) (filter other xs))) [
      | true ↦ ap (λ w. c x ∷ w) (filter_map_same c test other xs (λ y i. h y (inr i)))
      | false ↦ filter_map_same c test other xs (λ y i. h y (inr i))
    ])

pub halves_length : (test : ℕ → Bool) (xs : List ℕ) → length (filter (λ x. not (test x)) xs ++ filter test xs) ≡ length xs
halves_length test xs =
    length-append (filter (λ x. not (test x)) xs) (filter test xs) ∙ swap (length (filter (λ x. not (test x)) xs)) (length (filter test xs)) (length xs) (length-filter_both test (λ x. not (test x)) (λ x. refl) xs)
  where
    swap : (a b c : ℕ) → b + a ≡ c → a + b ≡ c
    swap a b c e = omega arith

-- ---- first places

pub firsts_are : (xs : List ℕ) → with_classes [] xs ≡ firsts xs
firsts_are xs = firsts_by with_classes (λ acc. refl) (λ acc x xs. refl) xs
