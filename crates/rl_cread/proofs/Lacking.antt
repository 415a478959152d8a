-- Texts that have none of a byte.
use Rattle.std.proofs.Common.{◌≡◌, ◌≢◌, ◌<◌, ◌+◌, ◌==◌, ◌||◌, ◌&&◌, ◌*◌, ◌^◌, ◌-◌, ℕ, suc, List, [], ◌∷◌, ◌++◌, length, get_or, Bool, true, false, sym, ap, ◌∙◌, refl, arith, rules}
use Rattle.std.specs.Prelude.{IsTrue, ℤ, pos, negsuc, cond, not}
use Rattle.std.specs.List.{AllByRecursion, All, slice_split, onto_first, list_all}
use Rattle.std.specs.Str.{all_ascii_digits}
use Rattle.std.specs.Fmt.{decimal, signed_decimal}
use Rattle.std.proofs.lemmas.Str.Parse.{IsNumeralModel, numerals_by_fold, not_in_digits}
use Rattle.std.proofs.lemmas.Fmt.{digits_decimal}
use Rattle.std.proofs.lemmas.List.Elements.{All-from_recursion}
use borrow.Author.Tests.{ne_eqb}
use Rattle.rl_arrays.specs.Names.{is_digit, is_letter, is_word, is_name, is_number, is_place, parts, are_numbers}
use Rattle.rl_arrays.specs.Section.{quoted}
use Rattle.rl_cread.specs.Contents.{IsPrintedNumber, IsPrintedName}

pub record Lacks (c : ℕ) (text : List ℕ) : Type 0 where
  pub each : AllByRecursion (λ b. (b == c) ≡ false) text

pub Lacks-nil : (c : ℕ) → Lacks c []
Lacks-nil c = record { each = tt }

pub Lacks-cons : (c b : ℕ) (text : List ℕ) → (b == c) ≡ false → Lacks c text → Lacks c (b ∷ text)
Lacks-cons c b text e h = record { each = (e, h.each) }

pub Lacks-append : (c : ℕ) (xs ys : List ℕ) → Lacks c xs → Lacks c ys → Lacks c (xs ++ ys)
Lacks-append c [] ys h k = k
Lacks-append c (x ∷ xs) ys h k = Lacks-cons c x (xs ++ ys) h.each.0 (Lacks-append c xs ys (record { each = h.each.1 }) k)

-- numbers
abbrev read_on : ℕ → List ℕ → ℕ
read_on n [] = n
read_on n (c ∷ cs) = read_on (10 * n + (c - 48)) cs

own : IsNumeralModel (λ ds. all_ascii_digits ds ≡ true) (read_on 0)
own = numerals_by_fold _ (search rules) read_on (search rules)

lacks_each : (c : ℕ) (bs : List ℕ) → ((i : ℕ) → i < length bs → get_or bs i 0 ≢ c) → Lacks c bs
lacks_each c [] h = Lacks-nil c
lacks_each c (b ∷ bs) h = Lacks-cons c b bs (ne_eqb b c (h 0 (omega arith))) (lacks_each c bs (λ i lt. h (suc i) (omega arith)))

decimal_lacks : (n : ℕ) → n < 2 ^ 64 → Lacks 44 (decimal n)
decimal_lacks n lt = lacks_each 44 (decimal n) (not_in_digits own (decimal n) 44 (digits_decimal own n lt) (λ r. omega (arith, r)))

pub number_lacks : (z : ℤ) → IsPrintedNumber z → Lacks 44 (signed_decimal z)
number_lacks (pos n) h = let k = h.sfits in decimal_lacks n (omega (arith, k))
number_lacks (negsuc n) h = let k = h.sfits in Lacks-cons 44 45 (decimal (suc n)) refl (decimal_lacks (suc n) (omega (arith, k)))

-- names
and_both : (a b : Bool) → (a && b) ≡ true → (a ≡ true) × (b ≡ true)
and_both true b e = (refl, e)
and_both false b e = absurd cc

or_either : (a b : Bool) → (a || b) ≡ true → (a ≡ false → b ≡ true)
or_either true b e = λ f. absurd cc
or_either false b e = λ f. e

pub lacks_tested : (c : ℕ) (p : ℕ → Bool) → p c ≡ false → (bs : List ℕ) → list_all p bs ≡ true → Lacks c bs
lacks_tested c p fails [] h = Lacks-nil c
lacks_tested c p fails (b ∷ bs) h =
    let k = and_both (p b) (list_all p bs) h in
    Lacks-cons c b bs (ne_eqb b c (λ e. let t : false ≡ true = sym fails ∙ sym (ap p e) ∙ k.0 in absurd cc)) (lacks_tested c p fails bs k.1)

word_lacks : (c : ℕ) → is_letter c ≡ false → is_digit c ≡ false → (bs : List ℕ) → is_word bs ≡ true → Lacks c bs
word_lacks c l d [] h = Lacks-nil c
word_lacks c l d (b ∷ bs) h =
    let k = and_both (is_letter b) (list_all (λ x. is_letter x || is_digit x) bs) h in
    Lacks-cons c b bs (ne_eqb b c (λ e. let t : false ≡ true = sym l ∙ sym (ap is_letter e) ∙ k.0 in absurd cc)) (lacks_tested c (λ x. is_letter x || is_digit x) (ap (λ y. y || is_digit c) l ∙ d) bs k.1)

-- a name has no blank and no comma
pub name_lacks : (c : ℕ) → is_letter c ≡ false → is_digit c ≡ false → (bs : List ℕ) → IsTrue (is_name bs) → Lacks c bs
name_lacks c l d bs h = word_lacks c l d bs (and_both (is_word bs) _ h).0

numeral_lacks : (bs : List ℕ) → is_number bs ≡ true → Lacks 44 bs
numeral_lacks [] h = Lacks-nil 44
numeral_lacks (b ∷ []) h = Lacks-cons 44 b [] (ne_eqb b 44 (λ e. let t : false ≡ true = sym (ap is_digit e) ∙ h in absurd cc)) (Lacks-nil 44)
numeral_lacks (b ∷ c ∷ bs) h =
    let k = and_both (is_digit b && not (b == 48)) (list_all is_digit (c ∷ bs)) h in
    let j = and_both (is_digit b) (not (b == 48)) k.0 in
    Lacks-cons 44 b (c ∷ bs) (ne_eqb b 44 (λ e. let t : false ≡ true = sym (ap is_digit e) ∙ j.0 in absurd cc)) (lacks_tested 44 is_digit refl (c ∷ bs) k.1)

numerals_lack : (ps : List (List ℕ)) → list_all is_number ps ≡ true → AllByRecursion (Lacks 44) ps
numerals_lack [] h = tt
numerals_lack (p ∷ ps) h = let k = and_both (is_number p) (list_all is_number ps) h in (numeral_lacks p k.0, numerals_lack ps k.1)

onto_lacks : (b : ℕ) (ps : List (List ℕ)) → AllByRecursion (Lacks 44) (onto_first b ps) → ((b == 44) ≡ false) × AllByRecursion (Lacks 44) ps
onto_lacks b [] h = (h.0.each.0, tt)
onto_lacks b (p ∷ ps) h = (h.0.each.0, (record { each = h.0.each.1 }, h.1))

part_lacks : (b : ℕ) (bs : List ℕ) (t : Bool) → (b == 58) ≡ t → (AllByRecursion (Lacks 44) (slice_split (λ c. c == 58) bs) → Lacks 44 bs)
    → AllByRecursion (Lacks 44) (cond t ([] ∷ slice_split (λ c. c == 58) bs) (onto_first b (slice_split (λ c. c == 58) bs))) → Lacks 44 (b ∷ bs)
part_lacks b bs true e rest h = Lacks-cons 44 b bs (ne_eqb b 44 (λ f. let t : false ≡ true = ap (λ x. x == 58) (sym f) ∙ e in absurd cc)) (rest h.1)
part_lacks b bs false e rest h = let k = onto_lacks b (slice_split (λ c. c == 58) bs) h in Lacks-cons 44 b bs k.0 (rest k.1)

whole_lacks : (bs : List ℕ) → AllByRecursion (Lacks 44) (slice_split (λ c. c == 58) bs) → Lacks 44 bs
whole_lacks [] h = Lacks-nil 44
whole_lacks (b ∷ bs) h = part_lacks b bs (b == 58) refl (whole_lacks bs) h

place_lacks : (bs : List ℕ) → is_place bs ≡ true → Lacks 44 bs
place_lacks [] h = Lacks-nil 44
place_lacks (b ∷ bs) h =
    let k = and_both (b == 64) (are_numbers (parts bs)) h in
    let j = and_both _ (list_all is_number (parts bs)) k.1 in
    Lacks-cons 44 b bs (ne_eqb b 44 (λ f. let t : false ≡ true = sym (ap (λ x. x == 64) f) ∙ k.0 in absurd cc)) (whole_lacks bs (numerals_lack (parts bs) j.1))

action_name_lacks : (bs : List ℕ) (n : Bool) → is_name bs ≡ n → (n || is_place bs) ≡ true → Lacks 44 bs
action_name_lacks bs true e h = name_lacks 44 refl refl bs e
action_name_lacks bs false e h = place_lacks bs h

printed_lacks : (bs : List ℕ) → IsPrintedName bs → Lacks 44 bs
printed_lacks [] h = Lacks-nil 44
printed_lacks (b ∷ bs) h = action_name_lacks (b ∷ bs) (is_name (b ∷ bs)) refl h

pub quoted_lacks : (name : List ℕ) → IsPrintedName name → Lacks 44 (quoted name)
quoted_lacks name h = Lacks-cons 44 34 _ refl (Lacks-append 44 name (34 ∷ []) (printed_lacks name h) (Lacks-cons 44 34 [] refl (Lacks-nil 44)))

pub every_lacks : (c : ℕ) (text : List ℕ) → Lacks c text → All (λ b. (b == c) ≡ false) text
every_lacks c text h = All-from_recursion _ text h.each

-- no number has a bracket
decimal_plain : (n : ℕ) → n < 2 ^ 64 → Lacks 91 (decimal n)
decimal_plain n lt = lacks_each 91 (decimal n) (not_in_digits own (decimal n) 91 (digits_decimal own n lt) (λ r. omega (arith, r)))

pub number_lacks_bracket : (z : ℤ) → IsPrintedNumber z → Lacks 91 (signed_decimal z)
number_lacks_bracket (pos n) h = let k = h.sfits in decimal_plain n (omega (arith, k))
number_lacks_bracket (negsuc n) h = let k = h.sfits in Lacks-cons 91 45 (decimal (suc n)) refl (decimal_plain (suc n) (omega (arith, k)))
