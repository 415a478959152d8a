-- Words at places of rows.
use Rattle.std.proofs.Common.{◌≡◌, ℕ, zero, suc, ◌<◌, List, [], ◌∷◌, map, length, get_or, Option, Some, None, slice_get, slice_set, unwrap_or, refl, ap, sym, ◌∙◌, subst, inl, inr, ◌⊎◌, arith}
use native.Mathlib.Decide.{dec_lt}
use Rattle.std.specs.List.{range_with_len}
use Rattle.std.proofs.lemmas.List.FromFn.{length-range_with_len, length-map-range_with_len}
use Rattle.rl_types.specs.declared.numbers.Letter.{Letter}
use Rattle.rl_certificate.specs.Tables.{Words, row_in, word_in, with_word, IsSquare}

-- ---- one list

set_length : {X : Type 0} (xs : List X) (i : ℕ) (x : X) → length (slice_set xs i x) ≡ length xs
set_length [] i x = refl
set_length (y ∷ xs) zero x = refl
set_length (y ∷ xs) (suc i) x = ap suc (set_length xs i x)

set_here : {X : Type 0} (xs : List X) (i : ℕ) (x : X) → i < length xs → slice_get (slice_set xs i x) i ≡ Some x
set_here [] i x h = absurd (omega arith)
set_here (y ∷ xs) zero x h = refl
set_here (y ∷ xs) (suc i) x h = set_here xs i x (omega arith)

set_other : {X : Type 0} (xs : List X) (i : ℕ) (x : X) (a : ℕ) → (a ≡ i → ⊥) → slice_get (slice_set xs i x) a ≡ slice_get xs a
set_other [] i x a n = refl
set_other (y ∷ xs) zero x zero n = absurd (n refl)
set_other (y ∷ xs) zero x (suc a) n = refl
set_other (y ∷ xs) (suc i) x zero n = refl
set_other (y ∷ xs) (suc i) x (suc a) n = set_other xs i x a (λ e. n (ap suc e))

pub same_or_not : (a b : ℕ) → (a ≡ b) ⊎ (a ≡ b → ⊥)
same_or_not a b = elim (dec_lt a b) [
  | yes h ↦ inr (λ e. absurd (omega arith))
  | no h ↦ elim (dec_lt b a) [
    | yes k ↦ inr (λ e. absurd (omega arith))
    | no k ↦ inl (omega arith)
  ]
]

-- ---- rows

module _ (words : Words) (i j : ℕ) (w : List Letter) (high : i < length words) where
  row_here : row_in (with_word words i j w) i ≡ slice_set (row_in words i) j (Some w)
  row_here = ap (λ o. unwrap_or o []) (set_here words i (slice_set (row_in words i) j (Some w)) high)

  row_other : (a : ℕ) → (a ≡ i → ⊥) → row_in (with_word words i j w) a ≡ row_in words a
  row_other a n = ap (λ o. unwrap_or o []) (set_other words i (slice_set (row_in words i) j (Some w)) a n)

  pub word_here : j < length (row_in words i) → word_in (with_word words i j w) i j ≡ Some w
  word_here h = ap (λ row. unwrap_or (slice_get row j) None) row_here ∙ ap (λ o. unwrap_or o None) (set_here (row_in words i) j (Some w) h)

  pub word_other : (a b : ℕ) → (a ≡ i → b ≡ j → ⊥) → word_in (with_word words i j w) a b ≡ word_in words a b
  word_other a b n = elim (same_or_not a i) [
    | inl e ↦ subst (λ x. word_in (with_word words i j w) x b ≡ word_in words x b) (sym e)
        (ap (λ row. unwrap_or (slice_get row b) None) row_here ∙ ap (λ o. unwrap_or o None) (set_other (row_in words i) j (Some w) b (n e)))
    | inr k ↦ ap (λ row. unwrap_or (slice_get row b) None) (row_other a k)
  ]

  row_length : (a : ℕ) → length (row_in (with_word words i j w) a) ≡ length (row_in words a)
  row_length a = elim (same_or_not a i) [
    | inl e ↦ subst (λ x. length (row_in (with_word words i j w) x) ≡ length (row_in words x)) (sym e) (ap length row_here ∙ set_length
        (row_in words i) j (Some w))
    | inr k ↦ ap length (row_other a k)
  ]

  pub still_square : (n : ℕ) → IsSquare n words → IsSquare n (with_word words i j w)
  still_square n s = record {
    count = set_length words i (slice_set (row_in words i) j (Some w)) ∙ s.count;
    each = λ a h. row_length a ∙ s.each a h;
  }

-- ---- places without words

abbrev pub no_word : ℕ → Option (List Letter)
no_word k = None

blank_word : (ys : List ℕ) (j : ℕ) → unwrap_or (slice_get (map no_word ys) j) None ≡ None
blank_word [] j = refl
blank_word (y ∷ ys) zero = refl
blank_word (y ∷ ys) (suc j) = blank_word ys j

-- rows of places without words
abbrev pub blank : List ℕ → List (Option (List Letter))
blank ys = map no_word ys

pub blank_none : (xs ys : List ℕ) (i j : ℕ) → word_in (map (λ (k : ℕ). blank ys) xs) i j ≡ None
blank_none [] ys i j = refl
blank_none (x ∷ xs) ys zero j = blank_word ys j
blank_none (x ∷ xs) ys (suc i) j = blank_none xs ys i j

blank_at : (xs ys : List ℕ) (i : ℕ) → i < length xs → row_in (map (λ (k : ℕ). blank ys) xs) i ≡ blank ys
blank_at [] ys i h = absurd (omega arith)
blank_at (x ∷ xs) ys zero h = refl
blank_at (x ∷ xs) ys (suc i) h = blank_at xs ys i (omega arith)

pub blank_square : (n : ℕ) → IsSquare n (map (λ (k : ℕ). blank (range_with_len 0 n)) (range_with_len 0 n))
blank_square n = record {
  count = length-map-range_with_len (λ (k : ℕ). blank (range_with_len 0 n)) 0 n;
  each = λ i h. ap length (blank_at (range_with_len 0 n) (range_with_len 0 n) i (subst (λ c. i < c) (sym
      (length-range_with_len 0 n)) h)) ∙ length-map-range_with_len no_word 0 n;
}

-- ---- a store

pub map_set : {X Y : Type 0} (f : X → Y) (xs : List X) (i : ℕ) (x : X) → map f (slice_set xs i x) ≡ slice_set (map f xs) i (f x)
map_set f [] i x = refl
map_set f (y ∷ xs) zero x = refl
map_set f (y ∷ xs) (suc i) x = ap (λ w. f y ∷ w) (map_set f xs i x)

pub row_mapped : {X : Type 0} (f : X → List (Option (List Letter))) (xs : List X) (i : ℕ) (d : X) → i < length xs → row_in (map f xs) i ≡ f (get_or xs i d)
row_mapped f [] i d h = absurd (omega arith)
row_mapped f (x ∷ xs) zero d h = refl
row_mapped f (x ∷ xs) (suc i) d h = row_mapped f xs i d (omega arith)
