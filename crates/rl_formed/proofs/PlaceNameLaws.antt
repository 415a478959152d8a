-- The name of an action without a name is that of an action.
use Rattle.std.proofs.Common.{◌≡◌, ℕ, zero, suc, ◌+◌, ◌<◌, ◌≤◌, ◌/◌, ◌%◌, ◌^◌, Bool, true, false, ◌&&◌, true≢false, List, [], ◌∷◌, ◌++◌, inl, inr, refl, sym, ap, ◌∙◌, subst, append_assoc, arith}
use Rattle.std.specs.Prelude.{◌==◌, ◌||◌, not, if◌then◌else◌, codes, decimal, All, IsTrue}
use Rattle.std.specs.List.{list_all}
use Rattle.std.proofs.lemmas.Bool.{false≢true, and_parts, and_from, leb-true, le-leb, ne_eqb, cases_lt}
use Rattle.std.proofs.lemmas.Nat.{mod_below, le-div}
use Rattle.std.proofs.lemmas.Fmt.{decimal_by_steps}
use Rattle.std.proofs.lemmas.List.Elements.{All-nil, All-cons}
use Rattle.std.proofs.lemmas.List.Splits.{slice_split_at, slice_split_none}
use Rattle.rl_types.specs.declared.numbers.Place.{Place}
use Rattle.rl_arrays.specs.Names.{is_digit, is_number, is_name, is_place, is_action_name, are_numbers, parts}
use Rattle.rl_names.specs.Actions.{anonymous_name}

-- ---- decimals

-- a first digit and others, of which there are none below ten
record IsDecimal (n : ℕ) (ds : List ℕ) : Type 0 where
  front : ℕ
  others : List ℕ
  is : ds ≡ front ∷ others
  digit : is_digit front ≡ true
  digits : list_all is_digit others ≡ true
  short : n < 10 → others ≡ []
  nonzero : 0 < n → (front == 48) ≡ false

digit_of : (d : ℕ) → d < 10 → is_digit (48 + d) ≡ true
digit_of d h = and_from _ _ (le-leb 48 (48 + d) (omega arith)) (le-leb (48 + d) 57 (omega (arith, h)))

no_zero : (n : ℕ) → 0 < n → 48 + n ≡ 48 → ⊥
no_zero n h e = omega (arith, h, e)

one_digit : (n : ℕ) → n < 10 → IsDecimal n ((48 + n) ∷ [])
one_digit n h = record { front = 48 + n; others = []; is = refl; digit = digit_of n h; digits = refl; short = λ l. refl; nonzero = λ p. ne_eqb (48 + n) 48 (no_zero n p) }

all_more : (xs : List ℕ) (y : ℕ) → list_all is_digit xs ≡ true → is_digit y ≡ true → list_all is_digit (xs ++ y ∷ []) ≡ true
all_more [] y h g = ap (λ z. z && true) g
all_more (x ∷ xs) y h g = let k = and_parts (is_digit x) (list_all is_digit xs) h in and_from _ _ k.0 (all_more xs y k.1 g)

not_short : (n : ℕ) → 10 ≤ n → n < 10 → ⊥
not_short n h l = omega (arith, h, l)

more_digits : (n : ℕ) (ds : List ℕ) → 10 ≤ n → IsDecimal (n / 10) ds → IsDecimal n (ds ++ (48 + n % 10) ∷ [])
more_digits n ds h d =
    let low : n % 10 < 10 = mod_below n 10 (omega arith) in
    let one : 1 ≤ n / 10 = le-div 1 n 10 (omega arith) (omega (arith, h)) in
    let high : 0 < n / 10 = omega (arith, one) in
    record {
      front = d.front;
      others = d.others ++ (48 + n % 10) ∷ [];
      is = ap (λ z. z ++ (48 + n % 10) ∷ []) d.is;
      digit = d.digit;
      digits = all_more d.others (48 + n % 10) d.digits (digit_of (n % 10) low);
      short = λ l. absurd (not_short n h l);
      nonzero = λ p. d.nonzero high;
    }

and_three : (x y z : Bool) → x ≡ true → y ≡ false → z ≡ true → (x && not y && z) ≡ true
and_three true false z a b c = c
and_three true true z a b c = absurd (true≢false b)
and_three false y z a b c = absurd (false≢true a)

none_more : (x : ℕ) (xs : List ℕ) → x ∷ xs ≡ [] → ⊥
none_more x xs e = cc

number_of : (n front : ℕ) (others : List ℕ) → is_digit front ≡ true → list_all is_digit others ≡ true → (n < 10 → others ≡ []) → (0 < n → (front == 48) ≡ false) → (n < 10 → ⊥) → is_number (front ∷ others) ≡ true
number_of n front [] a b c d l = a
number_of n front (x ∷ xs) a b c d l = and_three (is_digit front) (front == 48) (list_all is_digit (x ∷ xs)) a (d (above n l)) b
  where
    above : (n : ℕ) → (n < 10 → ⊥) → 0 < n
    above zero l = absurd (l (omega arith))
    above (suc n) l = omega arith

number_below : (n front : ℕ) (others : List ℕ) → is_digit front ≡ true → others ≡ [] → is_number (front ∷ others) ≡ true
number_below n front [] a e = a
number_below n front (x ∷ xs) a e = absurd (none_more x xs e)

-- a number without leading zeros, of digits
record IsNumeral (ds : List ℕ) : Type 0 where
  number : is_number ds ≡ true
  digits : list_all is_digit ds ≡ true

numeral : (n : ℕ) → n < 2 ^ 64 → IsNumeral (decimal n)
numeral n h =
    let d = decimal_by_steps IsDecimal one_digit more_digits n h in
    let number : is_number (d.front ∷ d.others) ≡ true = elim (cases_lt n 10) [
      | inl low ↦ number_below n d.front d.others d.digit (d.short low)
      | inr high ↦ number_of n d.front d.others d.digit d.digits d.short d.nonzero (not_short n high)
    ] in
    record {
      number = subst (λ z. is_number z ≡ true) (sym d.is) number;
      digits = subst (λ z. list_all is_digit z ≡ true) (sym d.is) (and_from (is_digit d.front) (list_all is_digit d.others) d.digit d.digits);
    }

-- ---- parts

no_digit : (x : ℕ) → x ≤ 57 → x ≡ 58 → ⊥
no_digit x h e = omega (arith, h, e)

not_colon : (x : ℕ) → is_digit x ≡ true → (x == 58) ≡ false
not_colon x h = ne_eqb x 58 (no_digit x (leb-true x 57 (and_parts _ _ h).1))

no_colon : (xs : List ℕ) → list_all is_digit xs ≡ true → All (λ x. (x == 58) ≡ false) xs
no_colon [] h = All-nil (λ x. (x == 58) ≡ false)
no_colon (x ∷ xs) h = let k = and_parts (is_digit x) (list_all is_digit xs) h in All-cons (λ x. (x == 58) ≡ false) x xs (not_colon x k.0) (no_colon xs k.1)

first_part : (ds ys : List ℕ) → IsNumeral ds → parts (ds ++ 58 ∷ ys) ≡ ds ∷ parts ys
first_part ds ys h = slice_split_at (λ c. c == 58) ds 58 ys (no_colon ds h.digits) refl

last_part : (ds : List ℕ) → IsNumeral ds → parts ds ≡ ds ∷ []
last_part ds h = slice_split_none (λ c. c == 58) ds (no_colon ds h.digits)

two_parts : (l k : List ℕ) → IsNumeral l → IsNumeral k → are_numbers (parts (l ++ 58 ∷ k)) ≡ true
two_parts l k a b =
    ap are_numbers (first_part l k a ∙ ap (λ z. l ∷ z) (last_part k b))
    ∙ (ap (λ z. z && (is_number k && true)) a.number ∙ ap (λ z. z && true) b.number)

three_parts : (f l k : List ℕ) → IsNumeral f → IsNumeral l → IsNumeral k → are_numbers (parts (f ++ 58 ∷ (l ++ 58 ∷ k))) ≡ true
three_parts f l k a b c =
    ap are_numbers (first_part f (l ++ 58 ∷ k) a ∙ ap (λ z. f ∷ z) (first_part l k b ∙ ap (λ z. l ∷ z) (last_part k c)))
    ∙ (ap (λ z. z && (is_number l && (is_number k && true))) a.number ∙ (ap (λ z. z && (is_number k && true)) b.number ∙ ap (λ z. z && true) c.number))

-- ---- names

place_case : (b : Bool) (f l k : List ℕ) → IsNumeral f → IsNumeral l → IsNumeral k
    → is_place ((((if b then codes "@" else (codes "@" ++ f) ++ codes ":") ++ l) ++ codes ":") ++ k) ≡ true
place_case true f l k a b c = ap (λ z. are_numbers (parts z)) (append_assoc l (58 ∷ []) k) ∙ two_parts l k b c
place_case false f l k a b c =
    ap (λ z. are_numbers (parts z)) (append_assoc ((f ++ 58 ∷ []) ++ l) (58 ∷ []) k ∙ (append_assoc (f ++ 58 ∷ []) l (58 ∷ k) ∙ append_assoc f (58 ∷ []) (l ++ 58 ∷ k)))
    ∙ three_parts f l k a b c

or_right : (a b : Bool) → b ≡ true → (a || b) ≡ true
or_right true b h = refl
or_right false b h = h

pub anonymous_named : (p : Place) → p.file < 2 ^ 64 → p.line < 2 ^ 64 → p.col < 2 ^ 64 → IsTrue (is_action_name (anonymous_name p))
anonymous_named p f l c =
    or_right (is_name (anonymous_name p)) (is_place (anonymous_name p)) (place_case (p.file == 0) (decimal p.file) (decimal p.line) (decimal p.col) (numeral p.file f) (numeral p.line l) (numeral p.col c))
