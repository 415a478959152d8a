-- The first letters of all edges ascend; the rows of steps on them.
use Rattle.std.proofs.Common.{◌≡◌, ℕ, zero, suc, ◌+◌, ◌<◌, Bool, true, false, cond, nat_eq, nat_lt, List, [], ◌∷◌, ◌++◌, map, length, get_or, Option, slice_get, Ordering, refl, ap, sym, ◌∙◌, subst, inl, inr, arith}
use Rattle.std.specs.Option.{option_map_or}
use Rattle.std.specs.List.{range_with_len}
use Rattle.std.specs.declared.cmp.Ordering.TheVariants.{Less, Equal, Greater}
use Rattle.std.specs.Ordering.{ordering_then, match_ordering, int_cmp, nat_cmp}
use Rattle.std.proofs.lemmas.List.{length-map, map-append, get_or-map}
use Rattle.std.proofs.lemmas.List.FromFn.{length-map-range_with_len, get_or-map-range_with_len}
use borrow.Author.Tests.{ltb-true}
use Rattle.rl_types.specs.declared.numbers.Letter.{Letter}
use Rattle.rl_sets.specs.Sets.{In, insert, Ascends}
use Rattle.rl_sets.specs.Order.{IsOrder}
use Rattle.rl_sets.proofs.OrderLaws.{int_order, nat_order, by_parts}
use Rattle.rl_sets.proofs.SetLaws.{Ascends-insert, Below-In}
use Rattle.rl_fsm.proofs.PieceLaws.{less_is}
use Rattle.rl_minimal.specs.declared.state.MinState.{MinState}
use Rattle.rl_minimal.specs.Minimal.{Minimal}
use Rattle.rl_minimal.specs.Machine.{edges_at}
use Rattle.rl_certificate.specs.Firsts.{LetterBefore}
use Rattle.rl_certificate.specs.Rounds.{own_letters}
use Rattle.rl_certificate.specs.Steps.{letter_cmp, with_letters, with_states, AreRising}

pub letter_order : IsOrder letter_cmp
letter_order = by_parts (λ (l : Letter). l.key) (λ l. l.truths) int_order nat_order (λ x y e f. λ i. record { key = e i; truths = f i })

-- ---- letters that ascend

lesser : (a b : ℕ) → nat_cmp a b ≡ Less → a < b
lesser a b q = by (nat_lt a b) refl q
  where
    never : (u : Bool) → cond u Equal Greater ≡ Less → ⊥
    never true e = cc
    never false e = cc

    by : (t : Bool) → nat_lt a b ≡ t → cond t Less (cond (nat_eq a b) Equal Greater) ≡ Less → a < b
    by true e q = ltb-true a b e
    by false e q = absurd (never (nat_eq a b) q)

before_by : (l k : Letter) (o : Ordering) → int_cmp l.key k.key ≡ o → ordering_then o (nat_cmp l.truths k.truths) ≡ Less → LetterBefore l k
before_by l k Less e q = inl (less_is l.key k.key e)
before_by l k Equal e q = inr (int_order.same l.key k.key e, lesser l.truths k.truths q)
before_by l k Greater e q = absurd (never q)
  where
    never : Greater ≡ Less → ⊥
    never e = cc

before_from : (l k : Letter) → letter_cmp l k ≡ Less → LetterBefore l k
before_from l k q = before_by l k (int_cmp l.key k.key) refl q

rising_from : (xs : List Letter) → Ascends letter_cmp xs → AreRising xs
rising_from [] a = tt
rising_from (x ∷ xs) a = (λ k i. before_from x k (Below-In letter_order x k xs a.0 i), rising_from xs a.1)

ascends_letters : (xs ys : List Letter) → Ascends letter_cmp ys → Ascends letter_cmp (with_letters xs ys)
ascends_letters [] ys a = a
ascends_letters (x ∷ xs) ys a = ascends_letters xs (insert letter_cmp x ys) (Ascends-insert letter_order x ys a)

ascends_states : (states : List MinState) (ys : List Letter) → Ascends letter_cmp ys → Ascends letter_cmp (with_states states ys)
ascends_states [] ys a = a
ascends_states (s ∷ states) ys a = ascends_states states (with_letters (own_letters s.edges) ys) (ascends_letters (own_letters s.edges) ys a)

pub all_rising : (states : List MinState) → AreRising (with_states states [])
all_rising states = rising_from (with_states states []) (ascends_states states [] tt)

-- ---- they have all first letters

insert_same : (x : Letter) (xs : List Letter) → In x (insert letter_cmp x xs)
insert_same x [] = inl refl
insert_same x (y ∷ ys) =
    (elim (letter_cmp x y) as (λ r. letter_cmp x y ≡ r → In x (match_ordering r (x ∷ y ∷ ys) (y ∷ ys) (y ∷ insert letter_cmp x ys))) [
      | Less ↦ λ e. inl refl
      | Equal ↦ λ e. inl (sym (letter_order.same x y e))
      | Greater ↦ λ e. inr (insert_same x ys)
    ]) refl

insert_other : (z x : Letter) (xs : List Letter) → In z xs → In z (insert letter_cmp x xs)
insert_other z x [] h = absurd h
insert_other z x (y ∷ ys) h =
    elim (letter_cmp x y) as (λ r. In z (match_ordering r (x ∷ y ∷ ys) (y ∷ ys) (y ∷ insert letter_cmp x ys))) [
      | Less ↦ inr h
      | Equal ↦ h
      | Greater ↦ elim h [ inl e ↦ inl e | inr i ↦ inr (insert_other z x ys i) ]
    ]

letters_kept : (z : Letter) (xs ys : List Letter) → In z ys → In z (with_letters xs ys)
letters_kept z [] ys i = i
letters_kept z (x ∷ xs) ys i = letters_kept z xs (insert letter_cmp x ys) (insert_other z x ys i)

letters_there : (z : Letter) (xs ys : List Letter) → In z xs → In z (with_letters xs ys)
letters_there z [] ys i = absurd i
letters_there z (x ∷ xs) ys (inl e) = letters_kept z xs (insert letter_cmp x ys) (subst (λ w. In w (insert letter_cmp x ys)) e (insert_same x ys))
letters_there z (x ∷ xs) ys (inr i) = letters_there z xs (insert letter_cmp x ys) i

states_kept : (z : Letter) (states : List MinState) (ys : List Letter) → In z ys → In z (with_states states ys)
states_kept z [] ys i = i
states_kept z (s ∷ states) ys i = states_kept z states (with_letters (own_letters s.edges) ys) (letters_kept z (own_letters s.edges) ys i)

states_there : (z : Letter) (states : List MinState) (ys : List Letter) (i : ℕ)
    → In z (own_letters (option_map_or (λ (s : MinState). s.edges) (slice_get states i) [])) → In z (with_states states ys)
states_there z [] ys i j = absurd j
states_there z (s ∷ states) ys zero j = states_kept z states (with_letters (own_letters s.edges) ys) (letters_there z (own_letters s.edges) ys j)
states_there z (s ∷ states) ys (suc i) j = states_there z states (with_letters (own_letters s.edges) ys) i j

pub all_there : (m : Minimal) (i : ℕ) (l : Letter) → In l (own_letters (edges_at m i)) → In l (with_states m.states [])
all_there m i l j = states_there l m.states [] i j

-- ---- rows of steps

range_more : (a n : ℕ) → range_with_len a (n + 1) ≡ range_with_len a n ++ (a + n) ∷ []
range_more a zero = ap (λ k. k ∷ []) (let e : a ≡ a + 0 = omega arith in e)
range_more a (suc n) = ap (range_with_len a) (let e : suc n + 1 ≡ suc (n + 1) = omega arith in e) ∙ ap (λ w. a ∷ w) (range_more (a + 1) n ∙ ap
    (λ k. range_with_len (a + 1) n ++ k ∷ []) (let e : a + 1 + n ≡ a + suc n = omega arith in e))

pub mapped_more : {X Y : Type 0} (f : X → Y) (g : ℕ → Y) (xs : List X) (x : X) (a n : ℕ) → map f xs ≡ map g (range_with_len a n) → f x ≡ g (a + n)
    → map f (xs ++ x ∷ []) ≡ map g (range_with_len a (n + 1))
mapped_more f g xs x a n q e =
    map-append f xs (x ∷ []) ∙ (λ i. q i ++ e i ∷ []) ∙ sym (map-append g (range_with_len a n) ((a + n) ∷ [])) ∙ sym (ap (map g) (range_more a n))

pub rows_count : {X : Type 0} (f : X → List (Option ℕ)) (g : ℕ → List (Option ℕ)) (rows : List X) (n : ℕ) → map f rows ≡ map g (range_with_len 0 n)
    → length rows ≡ n
rows_count f g rows n q = sym (length-map rows f) ∙ ap length q ∙ length-map-range_with_len g 0 n

pub row_at : {X : Type 0} (f : X → List (Option ℕ)) (g : ℕ → List (Option ℕ)) (rows : List X) (n i : ℕ) (d : X)
    → map f rows ≡ map g (range_with_len 0 n) → i < n → f (get_or rows i d) ≡ g i
row_at f g rows n i d q h =
    sym (get_or-map f rows i d [] (subst (λ k. i < k) (sym (rows_count f g rows n q)) h)) ∙ ap
    (λ w. get_or w i []) q ∙ get_or-map-range_with_len g 0 n i i [] h (let e : 0 + i ≡ i = omega arith in e)
