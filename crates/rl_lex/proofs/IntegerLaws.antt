-- The longest integer, and its value.
use Rattle.std.proofs.Common.{◌≡◌, ℕ, zero, suc, ◌+◌, ◌*◌, ◌<◌, ◌≤◌, true, false, cond, eqb, List, [], ◌∷◌, length, take, drop, Some, None, inl, inr, refl, sym, ap, ◌∙◌, subst, arith, get_or, drop-cons, mul-one}
use Rattle.std.specs.Prelude.{◌&&◌, ◌||◌, nat_le}
use Rattle.std.specs.List.{prefix_len, list_all}
use Rattle.std.specs.Str.Parse.{digits_value_after}
use Rattle.std.specs.Char.{digit_value}
use Rattle.std.proofs.lemmas.Bool.{cases_Bool, false≢true, eqb-true, ne_eqb, leb-true, and_parts}
use Rattle.std.proofs.Math.Nat.{mul-le-mul_left}
use Rattle.rl_arrays.specs.Names.{is_letter, is_digit}
use Rattle.rl_grammar.specs.declared.token.TokenKind.TheVariants as k
use Rattle.rl_lexical.specs.declared.context.Context.{Context}
use Rattle.rl_lexical.specs.Bytes.{is_hex_digit, begins}
use Rattle.rl_lexical.specs.Fronts.{front_kind}
use Rattle.rl_lexical.specs.Words.{is_decimal, is_hexadecimal}
use Rattle.rl_lex.specs.Longest.{IsLongest}
use Rattle.rl_lex.specs.Integers.{hexadecimal_len, prefixed_len}
use Rattle.rl_lex.proofs.Classes.{all_front, not_all, front_bound}
use Rattle.rl_lex.proofs.KindLaws.{digit_kind}

-- the value of digits is no less than that of the first of them
pub value_grows : (radix n : ℕ) (cs : List ℕ) → 1 ≤ radix → n ≤ digits_value_after radix n cs
value_grows radix n [] h = omega arith
value_grows radix n (c ∷ cs) h =
    let more = value_grows radix (n * radix + digit_value c) cs h in
    let times : n * 1 ≤ n * radix = mul-le-mul_left n h in
    let same : n * 1 ≡ n = mul-one n in
    omega arith

-- a front of hexadecimal digits behind `0x`
hex_front : (cs : List ℕ) (m : ℕ) → 0 < m → m ≤ length cs → is_hexadecimal (48 ∷ 120 ∷ take m cs) ≡ list_all is_hex_digit (take m cs)
hex_front cs zero l w = absurd (omega arith)
hex_front [] (suc m) l w = absurd (omega arith)
hex_front (c ∷ cs) (suc m) l w = refl

-- no front is hexadecimal where the text has no hexadecimal front
no_hex : (text : List ℕ) → hexadecimal_len text ≡ 0 → (m : ℕ) → is_hexadecimal (take m text) ≡ false
no_hex text e zero = refl
no_hex [] e (suc m) = refl
no_hex (a ∷ []) e (suc zero) = refl
no_hex (a ∷ []) e (suc (suc m)) = refl
no_hex (a ∷ b ∷ cs) e (suc zero) = refl
no_hex (a ∷ b ∷ cs) e (suc (suc zero)) = refl
no_hex (a ∷ b ∷ []) e (suc (suc (suc m))) = refl
no_hex (a ∷ b ∷ c ∷ cs) e (suc (suc (suc m))) = elim (cases_Bool (eqb a 48 && eqb b 120)) [
  | inr miss ↦ ap (λ z. z && list_all is_hex_digit (c ∷ take m cs)) miss
  | inl hit ↦
      let len : cond (eqb a 48 && eqb b 120) (prefixed_len (prefix_len is_hex_digit (c ∷ cs))) 0 ≡ 0 = e in
      let here : prefixed_len (prefix_len is_hex_digit (c ∷ cs)) ≡ 0 = rw hit at len in
      elim (cases_Bool (is_hex_digit c)) [
        | inr other ↦ rw hit (rw other refl)
        | inl yes_hex ↦
            let some : prefixed_len (1 + prefix_len is_hex_digit cs) ≡ 0 = rw yes_hex at here in
            absurd (grind (arith, some))
      ]
]

prefixed_some : (n : ℕ) → 0 < prefixed_len n → (0 < n) × (prefixed_len n ≡ n + 2)
prefixed_some zero l = absurd (omega arith)
prefixed_some (suc n) l =
    let miss : eqb (suc n) 0 ≡ false = ne_eqb (suc n) 0 (λ e. absurd (omega arith)) in
    (omega arith, rw miss refl)

-- the longest front of hexadecimal digits behind `0x`
hex_longest : (context : Context) (cs : List ℕ) → 0 < prefix_len is_hex_digit cs → IsLongest context (48 ∷ 120 ∷ cs) k.Integer (prefix_len is_hex_digit cs + 2)
hex_longest context cs l =
    let n = prefix_len is_hex_digit cs in
    let two : n + 2 ≡ suc (suc n) = omega arith in
    let bound = front_bound is_hex_digit cs in
    record {
      some = omega arith;
      within = omega arith;
      is_token = rw two (digit_kind context (drop n cs) 48 (120 ∷ take n cs) refl refl
          ∙ ap (λ z. cond z (Some k.Integer) None) (hex_front cs n l bound ∙ all_front is_hex_digit cs));
      longest = λ m o w. longer context cs l m o w;
    }
  where
    longer : (context : Context) (cs : List ℕ) → 0 < prefix_len is_hex_digit cs → (m : ℕ) → prefix_len is_hex_digit cs + 2 < m → m ≤ length (48 ∷ 120 ∷ cs)
        → front_kind context (48 ∷ 120 ∷ cs) m ≡ None
    longer context cs l zero o w = absurd (omega arith)
    longer context cs l (suc zero) o w = absurd (omega arith)
    longer context cs l (suc (suc m)) o w =
        digit_kind context (drop m cs) 48 (120 ∷ take m cs) refl refl
        ∙ ap (λ z. cond z (Some k.Integer) None) (hex_front cs m (omega arith) (omega arith) ∙ not_all is_hex_digit cs m (omega arith) (omega arith))

pub longest_hexadecimal : (context : Context) (text : List ℕ) → 0 < hexadecimal_len text → IsLongest context text k.Integer (hexadecimal_len text)
longest_hexadecimal context [] l = absurd (omega arith)
longest_hexadecimal context (a ∷ []) l = absurd (omega arith)
longest_hexadecimal context (a ∷ b ∷ cs) l = elim (cases_Bool (eqb a 48 && eqb b 120)) [
  | inr miss ↦ (let none : 0 < cond (eqb a 48 && eqb b 120) (prefixed_len (prefix_len is_hex_digit cs)) 0 = l in
      let zero_is : 0 < 0 = rw miss at none in absurd (omega arith))
  | inl hit ↦
      let some : 0 < cond (eqb a 48 && eqb b 120) (prefixed_len (prefix_len is_hex_digit cs)) 0 = l in
      let here : 0 < prefixed_len (prefix_len is_hex_digit cs) = rw hit at some in
      let len = prefixed_some (prefix_len is_hex_digit cs) here in
      let parts = and_parts (eqb a 48) (eqb b 120) hit in
      let P : ℕ → Type 0 = λ x. IsLongest context (x ∷ b ∷ cs) k.Integer (prefix_len is_hex_digit cs + 2) in
      let Q : ℕ → Type 0 = λ y. IsLongest context (48 ∷ y ∷ cs) k.Integer (prefix_len is_hex_digit cs + 2) in
      let all = hex_longest context cs len.0 in
      let second : Q b = subst Q (sym (eqb-true b 120 parts.1)) all in
      let first : P a = subst P (sym (eqb-true a 48 parts.0)) second in
      rw hit (rw len.1 first)
]

-- the longest front of digits, where the text has no hexadecimal front
pub longest_decimal : (context : Context) (text : List ℕ) → begins is_letter text ≡ false → begins is_digit text ≡ true → hexadecimal_len text ≡ 0
    → IsLongest context text k.Integer (prefix_len is_digit text)
longest_decimal context [] no_letter h none = absurd (false≢true h)
longest_decimal context (b ∷ bs) no_letter h none =
    let n = prefix_len is_digit bs in
    let one : 1 + n ≡ suc n = omega arith in
    let len : prefix_len is_digit (b ∷ bs) ≡ 1 + n = rw h refl in
    let bound = front_bound is_digit bs in
    let decimal : is_decimal (b ∷ take n bs) ≡ true = rw h (all_front is_digit bs) in
    let found : IsLongest context (b ∷ bs) k.Integer (1 + n) = record {
      some = omega arith;
      within = omega arith;
      is_token = rw one (digit_kind context (drop n bs) b (take n bs) no_letter h
          ∙ ap (λ z. cond (z || is_hexadecimal (b ∷ take n bs)) (Some k.Integer) None) decimal);
      longest = λ m o w. longer context b bs no_letter h none m o w;
    } in
    let P : ℕ → Type 0 = λ z. IsLongest context (b ∷ bs) k.Integer z in
    subst P (sym len) found
  where
    longer : (context : Context) (b : ℕ) (bs : List ℕ) → is_letter b ≡ false → is_digit b ≡ true → hexadecimal_len (b ∷ bs) ≡ 0 → (m : ℕ)
        → 1 + prefix_len is_digit bs < m → m ≤ length (b ∷ bs) → front_kind context (b ∷ bs) m ≡ None
    longer context b bs no_letter h none zero o w = absurd (omega arith)
    longer context b bs no_letter h none (suc m) o w =
        let no_decimal : is_decimal (b ∷ take m bs) ≡ false = rw h (not_all is_digit bs m (omega arith) (omega arith)) in
        digit_kind context (drop m bs) b (take m bs) no_letter h
        ∙ (ap (λ z. cond (z || is_hexadecimal (b ∷ take m bs)) (Some k.Integer) None) no_decimal
        ∙ ap (λ z. cond z (Some k.Integer) None) (no_hex (b ∷ bs) none (suc m)))

-- digits are too large where some of them are
pub too_large : (radix value : ℕ) (xs : List ℕ) (i next v : ℕ) → 1 ≤ radix → i < length xs → digits_value_after radix value (drop i xs) ≡ v
    → next ≡ value * radix + digit_value (get_or xs i 0) → 9223372036854775807 < next → false ≡ nat_le v 9223372036854775807
too_large radix value xs i next v some l e step more =
    let whole = rw (drop-cons xs i 0 l) at e in
    let grows = value_grows radix (value * radix + digit_value (get_or xs i 0)) (drop (suc i) xs) some in
    let most : 9223372036854775807 < v = omega (arith, whole, grows, step, more) in
    elim (cases_Bool (nat_le v 9223372036854775807)) [
      | inr miss ↦ sym miss
      | inl hit ↦ (let bound = leb-true v 9223372036854775807 hit in absurd (omega arith))
    ]
