-- How many pieces are left at a place of an input.
use Rattle.std.proofs.Common.{◌≡◌, ℕ, zero, suc, ◌+◌, ◌-◌, ◌^◌, ◌<◌, ◌≤◌, Bool, true, false, nat_lt, List, [], ◌∷◌, length, take, drop, refl, sym, ◌∙◌, ap, subst, arith}
use Rattle.std.proofs.lemmas.List.{length-drop}
use Rattle.std.proofs.lemmas.Bool.Decides.{nat_tests}
use Rattle.rl_made.specs.Made.{piece_length, pieces_from}

-- enough is enough
same_pieces : (n m k : ℕ) (xs : List ℕ) → length xs ≤ n → length xs ≤ m → pieces_from n k xs ≡ pieces_from m k xs
unfolding pieces_from
same_pieces zero zero k xs a b = refl
same_pieces zero (suc m) k [] a b = refl
same_pieces zero (suc m) k (x ∷ xs) a b = absurd (omega arith)
same_pieces (suc n) zero k [] a b = refl
same_pieces (suc n) zero k (x ∷ xs) a b = absurd (omega arith)
same_pieces (suc n) (suc m) k [] a b = refl
same_pieces (suc n) (suc m) k (x ∷ xs) a b =
    let len = length-drop (piece_length k) (x ∷ xs) in
    ap (λ rest. take (piece_length k) (x ∷ xs) ∷ rest)
    (same_pieces n m (k + 1) (drop (piece_length k) (x ∷ xs)) (omega (arith, a, len)) (omega (arith, b, len)))

one_piece : (n k : ℕ) (xs : List ℕ) → 0 < length xs → length xs ≤ n → (ys : List ℕ) → ys ≡ drop (piece_length k) xs →
    length (pieces_from n k xs) ≡ suc (length (pieces_from (length ys) (k + 1) ys))
unfolding pieces_from
one_piece n k [] some enough ys e = absurd (omega arith)
one_piece zero k (x ∷ xs) some enough ys e = absurd (omega arith)
one_piece (suc n) k (x ∷ xs) some enough ys e =
    let len = length-drop (piece_length k) (x ∷ xs) in
    let long = ap length e in
    ap (λ (rest : List ℕ). suc (length (pieces_from n (k + 1) rest))) (sym e)
    ∙ ap (λ (rest : List (List ℕ)). suc (length rest)) (same_pieces n (length ys) (k + 1) ys (omega (arith, enough, len, long)) (omega arith))

drop_all : (n : ℕ) (xs : List ℕ) → length xs ≤ n → drop n xs ≡ []
drop_all zero [] h = refl
drop_all (suc n) [] h = refl
drop_all zero (x ∷ xs) h = absurd (omega arith)
drop_all (suc n) (x ∷ xs) h = drop_all n xs (omega arith)

drop_drop : (n m : ℕ) (xs : List ℕ) → drop m (drop n xs) ≡ drop (n + m) xs
drop_drop zero m xs = ap (λ k. drop k xs) (same m)
  where
    same : (m : ℕ) → m ≡ 0 + m
    same m = omega arith
drop_drop (suc n) m [] = drop_all m [] (omega arith) ∙ sym (drop_all (suc n + m) [] (omega arith))
drop_drop (suc n) m (x ∷ xs) = drop_drop n m xs ∙ ap (λ k. drop k (x ∷ xs)) (more n m)
  where
    more : (n m : ℕ) → suc (n + m) ≡ suc n + m
    more n m = omega arith

-- a piece that begins at a place and ends at another
pub piece_counted : (input : List ℕ) (from to k : ℕ) → from < length input → to ≤ length input → (to < length input → to ≡ from + piece_length k) →
    to ≤ from + piece_length k → length input < 2 ^ 63 →
    length (pieces_from (length input - from) k (drop from input)) ≡ 1 + length (pieces_from (length input - to) (k + 1) (drop to input))
piece_counted input from to k begins within whole last small =
    let here = length-drop from input in
    let there = length-drop to input in
    one_piece (length input - from) k (drop from input) (omega (arith, here, begins)) (omega (arith, here)) (drop to input) (behind (nat_lt to (length input)) refl)
    ∙ ap (λ n. suc (length (pieces_from n (k + 1) (drop to input)))) there ∙ omega arith
  where
    behind : (b : Bool) → nat_lt to (length input) ≡ b → drop to input ≡ drop (piece_length k) (drop from input)
    behind true e =
        let less : to < length input = grind (arith, nat_tests) in
        ap (λ n. drop n input) (whole less) ∙ sym (drop_drop from (piece_length k) input)
    behind false e =
        let more : length input ≤ to = grind (arith, nat_tests) in
        drop_all to input more ∙ sym (drop_all (from + piece_length k) input (omega (arith, more, last))) ∙ sym (drop_drop from (piece_length k) input)

pub first_counted : (input : List ℕ) → 0 + length (pieces_from (length input - 0) 0 (drop 0 input)) ≡ length (pieces_from (length input) 0 input)
first_counted input = ap (λ n. 0 + length (pieces_from n 0 input)) (whole (length input)) ∙ front (length (pieces_from (length input) 0 input))
  where
    whole : (n : ℕ) → n - 0 ≡ n
    whole n = omega arith

    front : (n : ℕ) → 0 + n ≡ n
    front n = omega arith

pub all_counted : (input : List ℕ) (from k pieces : ℕ) → length input ≤ from → pieces + length (pieces_from (length input - from) k (drop from input)) ≡ pieces
unfolding pieces_from
all_counted input from k pieces past =
    let none : length input - from ≡ 0 = omega (arith, past) in
    ap (λ n. pieces + length (pieces_from n k (drop from input))) none ∙ same pieces
  where
    same : (n : ℕ) → n + 0 ≡ n
    same n = omega arith

pub take_whole : (from : ℕ) (input : List ℕ) → length input ≤ from → take from input ≡ input
take_whole from [] past = none from
  where
    none : (n : ℕ) → take {A = ℕ} n [] ≡ []
    none zero = refl
    none (suc n) = refl
take_whole zero (x ∷ xs) past = absurd (omega arith)
take_whole (suc n) (x ∷ xs) past = ap (λ rest. x ∷ rest) (take_whole n xs (omega arith))

pub count_on : (pieces left later all : ℕ) → pieces + left ≡ all → left ≡ 1 + later → pieces + 1 + later ≡ all
count_on pieces left later all e f = omega arith
