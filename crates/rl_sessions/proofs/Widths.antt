-- Widths of characters.
use Rattle.std.proofs.Common.{◌≡◌, ℕ, ◌+◌, ◌*◌, ◌<◌, ◌-◌, ◌≤◌, inl, inr, refl, sym, subst, arith}
use Rattle.std.specs.Prelude.{◌/◌}
use Rattle.std.proofs.Math.Nat.{mul-add-div, mul-le-mul_left}
use Rattle.rl_types.specs.Alphabet.{width_of}
use Rattle.rl_types.specs.declared.alphabet.Alphabet.{Alphabet}
use Rattle.rl_types.specs.declared.alphabet.Alphabet.TheVariants.{Char, UnsignedChar, Short, UnsignedShort, Int, UnsignedInt}
use Rattle.rl_types.proofs.Characters.{width_some}
use Rattle.rl_arrays.specs.declared.arrays.Arrays.{Arrays}
use Rattle.rl_arrays.specs.TableMachine.{machine, letters}
use Rattle.rl_window.specs.WindowValue.{IsWidth}

pub is_width : (alphabet : Alphabet) → IsWidth (width_of alphabet)
is_width Char = inl refl
is_width UnsignedChar = inl refl
is_width Short = inr (inl refl)
is_width UnsignedShort = inr (inl refl)
is_width Int = inr (inr refl)
is_width UnsignedInt = inr (inr refl)

pub width_there : (arrays : Arrays) → 0 < (machine arrays).width
unfolding machine
width_there arrays = width_some (letters arrays)

-- ---- products and quotients

pub mul_split : (w a b : ℕ) → w * (a + b) ≡ w * a + w * b
mul_split w a b = omega arith

-- less than a character more than so many is left behind some of them
pub left_by : (w q r a j most n : ℕ) → n ≡ w * q + r → r < w → q ≡ a + j → j ≤ most → n - w * a < w * (most + 1)
left_by w q r a j most n e small parts within =
    let more : w * j ≤ w * most = mul-le-mul_left w within in
    let split : w * q ≡ w * a + w * j = subst (λ k. w * k ≡ w * a + w * j) (sym parts) (mul_split w a j) in
    omega arith

-- the last whole character of the same bytes, seen from another one on
pub past_by : (w low j n all next : ℕ) → 0 < w → w * (low + j) + n ≡ w * low + all → low + j + n / w ≤ next → low + all / w ≤ next
past_by w low j n all next some e past =
    let all_is : w * j + n ≡ all = omega arith in
    let quotient : all / w ≡ j + n / w = subst (λ k. k / w ≡ j + n / w) all_is (mul-add-div some j n) in
    omega arith

pub quotient_behind : (w base n all : ℕ) → 0 < w → all ≡ w * base + n → all / w ≡ base + n / w
quotient_behind w base n all some e = subst (λ k. k / w ≡ base + n / w) (sym e) (mul-add-div some base n)

pub below_room : (a b c : ℕ) → a < b → b ≤ c → a < c
below_room a b c x y = omega arith
