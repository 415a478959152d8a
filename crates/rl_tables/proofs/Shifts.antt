-- Steps of the loops over ranges and over conditions.
use Rattle.std.proofs.Common.{◌≡◌, ℕ, suc, ◌+◌, ◌*◌, ◌^◌, ◌<◌, ◌≤◌, false, not, ◌&&◌, List, ◌∷◌, length, Option, Some, None, refl, sym, ◌∙◌, ap, arith, bit_and}
use Rattle.std.proofs.lemmas.Bool.Decides.{nat_tests}
use Rattle.std.specs.Prelude.{ℤ, int_le, ◌==◌, if◌then◌else◌}
use Rattle.std.specs.List.{filter}
use Rattle.std.specs.Option.{option_map}
use Rattle.rl_arrays.specs.TableMachine.{range_of, entry_number}

range-further : (n : ℕ) (o : Option ℕ) → option_map (λ r. n + r) (option_map (λ r. r + 1) o) ≡ option_map (λ r. (n + 1) + r) o
range-further n None = refl
range-further n (Some r) = ap Some (omega arith)

-- a range that does not hold the key is passed over
pub range-step : (key : ℤ) (all rest behind others : List ℤ) (low high : ℤ) (n : ℕ) → rest ≡ low ∷ behind → behind ≡ high ∷ others → false ≡ (int_le low key && int_le key high) →
    range_of key all ≡ option_map (λ r. n + r) (range_of key rest) → range_of key all ≡ option_map (λ r. (n + 1) + r) (range_of key others)
range-step key all rest behind others low high n e f out same =
    let whole : rest ≡ low ∷ high ∷ others = e ∙ ap (λ xs. low ∷ xs) f in
    let after : range_of key (low ∷ high ∷ others) ≡ option_map (λ r. r + 1) (range_of key others) = rw (sym out) refl in
    same ∙ ap (λ xs. option_map (λ r. n + r) (range_of key xs)) whole ∙ ap (option_map (λ r. n + r)) after ∙ range-further n (range_of key others)

abbrev number_of : ℕ → ℕ → List ℕ → ℕ
number_of asks hold bits = entry_number (filter (λ bit. not (bit_and asks bit == 0)) bits) hold

bit-further : (n w b e : ℕ) → n + w * (b + 2 * e) ≡ (n + w * b) + (w * 2) * e
bit-further n w b e = grind arith

-- a condition that is asked has one bit more
pub bit-step : (asks hold : ℕ) (all rest others : List ℕ) (bit n w b : ℕ) → rest ≡ bit ∷ others → (bit_and asks bit ≡ 0 → ⊥) → b ≡ (if bit_and hold bit == 0 then 0 else 1) →
    number_of asks hold all ≡ n + w * number_of asks hold rest → number_of asks hold all ≡ (n + w * b) + (w * 2) * number_of asks hold others
bit-step asks hold all rest others bit n w b e asked is same =
    let yes : (bit_and asks bit == 0) ≡ false = grind (arith, nat_tests) in
    let this : number_of asks hold (bit ∷ others) ≡ b + 2 * number_of asks hold others = rw (yes, is) refl in
    same ∙ ap (λ xs. n + w * number_of asks hold xs) e ∙ ap (λ k. n + w * k) this ∙ bit-further n w b (number_of asks hold others)

pub bit-below : (n w b : ℕ) → n < w → b ≤ 1 → n + w * b < w * 2
bit-below n w b h l = grind arith

pub bit-small : (w : ℕ) (rest others : List ℕ) (bit : ℕ) → rest ≡ bit ∷ others → w * 2 ^ length rest ≤ 2 ^ 8 → (w * 2) * 2 ^ length others ≤ 2 ^ 8
bit-small w rest others bit e h =
    let longer : length rest ≡ suc (length others) = ap length e in
    let power : 2 ^ suc (length others) ≡ 2 * 2 ^ length others = omega arith in
    let small : w * (2 * 2 ^ length others) ≤ 2 ^ 8 = rw (longer, power) at h in
    let same : (w * 2) * 2 ^ length others ≡ w * (2 * 2 ^ length others) = grind arith in
    omega (arith, same, small)
