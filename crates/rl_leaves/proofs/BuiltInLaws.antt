-- The ranges of the built-in machines have their form.
use Rattle.std.proofs.Common.{◌≡◌, Bool, true, ◌&&◌, ℤ, pos, ◌+ℤ◌, ◌≤ℤ◌, ◌<ℤ◌, int_le, int_lt, List, [], ◌∷◌, length, refl, arith}
use Rattle.std.specs.Prelude.{nat_le}
use Rattle.std.proofs.lemmas.Int.{ints}
use Rattle.std.proofs.lemmas.Bool.{and_parts, leb-true}
use Rattle.rl_types.specs.declared.alphabet.Alphabet.{Alphabet}
use Rattle.rl_types.specs.declared.alphabet.Alphabet.TheVariants.{Char, UnsignedChar, Short, UnsignedShort, Int, UnsignedInt}
use Rattle.rl_types.specs.Alphabet.{least_key, greatest_key}
use Rattle.rl_types.specs.KeyRange.{Range}
use Rattle.rl_leaves.specs.declared.built_in.BuiltIn.{BuiltIn}
use Rattle.rl_leaves.specs.declared.built_in.BuiltIn.TheVariants as b
use Rattle.rl_leaves.specs.BuiltIns.{built_in_leaf}
use Rattle.rl_leaves.specs.Forms.{Ascend, AreRanges, IsLeaf}
use Rattle.rl_leaves.proofs.KeyTests.{le_from, lt_from}
use Rattle.rl_leaves.proofs.OrderLaws.{EndBefore, lower, higher}
use Rattle.rl_leaves.proofs.FormLaws.{form_from, one_form, letter_bounds}

ascends : ℤ → List Range → Bool
ascends low [] = true
ascends low (r ∷ rs) = int_le low r.lo && (int_le r.lo r.hi && ascends (r.hi +ℤ pos 2) rs)

ends_before : ℤ → List Range → Bool
ends_before high [] = true
ends_before high (r ∷ rs) = int_lt r.hi high && ends_before high rs

ascends_is : (low : ℤ) (rs : List Range) → ascends low rs ≡ true → Ascend low rs
unfolding ascends
ascends_is low [] h = tt
ascends_is low (r ∷ rs) h =
    let first = and_parts (int_le low r.lo) (int_le r.lo r.hi && ascends (r.hi +ℤ pos 2) rs) h in
    let second = and_parts (int_le r.lo r.hi) (ascends (r.hi +ℤ pos 2) rs) first.1 in
    (le_from low r.lo first.0, le_from r.lo r.hi second.0, ascends_is (r.hi +ℤ pos 2) rs second.1)

ends_is : (high : ℤ) (rs : List Range) → ends_before high rs ≡ true → EndBefore high rs
unfolding ends_before
ends_is high [] h = tt
ends_is high (r ∷ rs) h =
    let parts = and_parts (int_lt r.hi high) (ends_before high rs) h in
    (lt_from r.hi high parts.0, ends_is high rs parts.1)

-- a list that computes has the form where the tests do
computed : (alphabet : Alphabet) (low high : ℤ) (rs : List Range) → (least_key alphabet ≤ℤ low) × (high ≤ℤ (greatest_key alphabet +ℤ pos 1))
    → ascends low rs ≡ true → ends_before high rs ≡ true → nat_le (length rs) 256 ≡ true → AreRanges alphabet rs
computed alphabet low high rs fits a e f =
    form_from alphabet rs (lower (least_key alphabet) low rs fits.0 (ascends_is low rs a))
    (higher (greatest_key alphabet +ℤ pos 1) high rs fits.1 (ends_is high rs e))
    (leb-true (length rs) 256 f)

ascii_fits : (alphabet : Alphabet) → (least_key alphabet ≤ℤ pos 0) × (pos 128 ≤ℤ (greatest_key alphabet +ℤ pos 1))
ascii_fits alphabet =
    let bounds = letter_bounds alphabet in
    let greatest : pos 127 ≤ℤ greatest_key alphabet = bounds.1 in
    (bounds.0, omega (arith, ints))

-- keys from 0 to 127
ascii : (alphabet : Alphabet) (rs : List Range) → ascends (pos 0) rs ≡ true → ends_before (pos 128) rs ≡ true
    → nat_le (length rs) 256 ≡ true → AreRanges alphabet rs
ascii alphabet rs = computed alphabet (pos 0) (pos 128) rs (ascii_fits alphabet)

any_form : (alphabet : Alphabet) → IsLeaf alphabet (built_in_leaf alphabet b.Any)
any_form Char = one_form Char _ _ (omega (arith, ints)) (omega (arith, ints)) (omega (arith, ints))
any_form UnsignedChar = one_form UnsignedChar _ _ (omega (arith, ints)) (omega (arith, ints)) (omega (arith, ints))
any_form Short = one_form Short _ _ (omega (arith, ints)) (omega (arith, ints)) (omega (arith, ints))
any_form UnsignedShort = one_form UnsignedShort _ _ (omega (arith, ints)) (omega (arith, ints)) (omega (arith, ints))
any_form Int = one_form Int _ _ (omega (arith, ints)) (omega (arith, ints)) (omega (arith, ints))
any_form UnsignedInt = one_form UnsignedInt _ _ (omega (arith, ints)) (omega (arith, ints)) (omega (arith, ints))

extend_form : (alphabet : Alphabet) → IsLeaf alphabet (built_in_leaf alphabet b.Extend)
extend_form Char = one_form Char _ _ (omega (arith, ints)) (omega (arith, ints)) (omega (arith, ints))
extend_form UnsignedChar = one_form UnsignedChar _ _ (omega (arith, ints)) (omega (arith, ints)) (omega (arith, ints))
extend_form Short = one_form Short _ _ (omega (arith, ints)) (omega (arith, ints)) (omega (arith, ints))
extend_form UnsignedShort = one_form UnsignedShort _ _ (omega (arith, ints)) (omega (arith, ints)) (omega (arith, ints))
extend_form Int = one_form Int _ _ (omega (arith, ints)) (omega (arith, ints)) (omega (arith, ints))
extend_form UnsignedInt = one_form UnsignedInt _ _ (omega (arith, ints)) (omega (arith, ints)) (omega (arith, ints))

pub built_in_form : (alphabet : Alphabet) (x : BuiltIn) → IsLeaf alphabet (built_in_leaf alphabet x)
unfolding ascends ends_before
built_in_form alphabet b.Any = any_form alphabet
built_in_form alphabet b.Extend = extend_form alphabet
built_in_form alphabet b.Ascii = ascii alphabet _ refl refl refl
built_in_form alphabet b.Alpha = ascii alphabet _ refl refl refl
built_in_form alphabet b.Digit = ascii alphabet _ refl refl refl
built_in_form alphabet b.Alnum = ascii alphabet _ refl refl refl
built_in_form alphabet b.Lower = ascii alphabet _ refl refl refl
built_in_form alphabet b.Upper = ascii alphabet _ refl refl refl
built_in_form alphabet b.Punct = ascii alphabet _ refl refl refl
built_in_form alphabet b.Graph = ascii alphabet _ refl refl refl
built_in_form alphabet b.Print = ascii alphabet _ refl refl refl
built_in_form alphabet b.Space = ascii alphabet _ refl refl refl
built_in_form alphabet b.Xdigit = ascii alphabet _ refl refl refl
built_in_form alphabet b.Cntrl = ascii alphabet _ refl refl refl
built_in_form alphabet b.Zlen = tt
built_in_form alphabet b.Null = tt
built_in_form alphabet b.Empty = tt
