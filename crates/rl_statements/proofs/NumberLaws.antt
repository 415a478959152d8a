-- The value of digits is no less than that of the first of them.
use Rattle.std.proofs.Common.{◌≡◌, ℕ, suc, ◌+◌, ◌*◌, ◌<◌, ◌≤◌, false, List, [], ◌∷◌, length, drop, inl, inr, get_or, drop-cons, mul-one, arith}
use Rattle.std.specs.Prelude.{nat_le}
use Rattle.std.specs.Str.Parse.{digits_value_after}
use Rattle.std.specs.Char.{digit_value}
use Rattle.std.proofs.lemmas.Bool.{cases_Bool, leb-true}
use Rattle.std.proofs.Math.Nat.{mul-le-mul_left}

value_grows : (radix n : ℕ) (cs : List ℕ) → 1 ≤ radix → n ≤ digits_value_after radix n cs
value_grows radix n [] h = omega arith
value_grows radix n (c ∷ cs) h =
    let more = value_grows radix (n * radix + digit_value c) cs h in
    let times : n * 1 ≤ n * radix = mul-le-mul_left n h in
    let same : n * 1 ≡ n = mul-one n in
    omega arith

pub too_large : (radix value limit : ℕ) (xs : List ℕ) (i next v : ℕ) → 1 ≤ radix → i < length xs → digits_value_after radix value (drop i xs) ≡ v
    → next ≡ value * radix + digit_value (get_or xs i 0) → limit < next → nat_le v limit ≡ false
too_large radix value limit xs i next v some l e step more =
    let whole = rw (drop-cons xs i 0 l) at e in
    let grows = value_grows radix (value * radix + digit_value (get_or xs i 0)) (drop (suc i) xs) some in
    let most : limit < v = omega (arith, whole, grows, step, more) in
    elim (cases_Bool (nat_le v limit)) [
      | inr miss ↦ miss
      | inl hit ↦ (let bound = leb-true v limit hit in absurd (omega arith))
    ]
