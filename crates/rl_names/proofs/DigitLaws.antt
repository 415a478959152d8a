-- Digits whose value is too large.
use Rattle.std.proofs.Common.{◌≡◌, ℕ, ◌+◌, ◌*◌, ◌<◌, ◌≤◌, false, List, [], ◌∷◌, length, drop, suc, inl, inr, sym, arith, get_or, drop-cons, mul-one}
use Rattle.std.specs.Prelude.{nat_le}
use Rattle.std.specs.Str.Parse.{digits_value_after}
use Rattle.std.specs.Char.{digit_value}
use Rattle.std.proofs.lemmas.Bool.{cases_Bool, leb-true}
use Rattle.std.proofs.Math.Nat.{mul-le-mul_left}

-- the value of digits is no less than that of the first of them
value_grows : (radix n : ℕ) (cs : List ℕ) → 1 ≤ radix → n ≤ digits_value_after radix n cs
value_grows radix n [] h = omega arith
value_grows radix n (c ∷ cs) h =
    let more = value_grows radix (n * radix + digit_value c) cs h in
    let times : n * 1 ≤ n * radix = mul-le-mul_left n h in
    let same : n * 1 ≡ n = mul-one n in
    omega arith

pub too_large : (radix value : ℕ) (xs : List ℕ) (i next v : ℕ) → 1 ≤ radix → i < length xs → digits_value_after radix value (drop i xs) ≡ v
    → next ≡ value * radix + digit_value (get_or xs i 0) → 9223372036854775807 < next → false ≡ nat_le v 9223372036854775807
too_large radix value xs i next v some l e step more =
    let whole = rw (drop-cons xs i 0 l) at e in
    let grows = value_grows radix (value * radix + digit_value (get_or xs i 0)) (drop (suc i) xs) some in
    let most : 9223372036854775807 < v = omega (arith, whole, grows, step, more) in
    elim (cases_Bool (nat_le v 9223372036854775807)) [
      | inr miss ↦ sym miss
      | inl hit ↦ (let bound = leb-true v 9223372036854775807 hit in absurd (omega arith))
    ]
