-- The ranges of leaves have their form.
use Rattle.std.proofs.Common.{◌≡◌, ℕ, ◌-◌, ◌<◌, ◌≤◌, Bool, true, false, cond, ◌&&◌, ℤ, pos, ◌+ℤ◌, ◌-ℤ◌}
use Rattle.std.proofs.Common.{◌≤ℤ◌, ◌<ℤ◌, int_le, List, [], ◌∷◌, length, refl, sym, ap, subst, ◌∙◌, arith}
use Rattle.std.specs.Prelude.{nat_lt, Result, Ok, Err, IfOk}
use Rattle.std.specs.List.{All}
use Rattle.std.proofs.lemmas.Int.{ints}
use Rattle.std.proofs.lemmas.Bool.{and_parts, and_from}
use Rattle.std.proofs.lemmas.List.Elements.{All-nil, All-cons}
use Rattle.rl_types.specs.declared.alphabet.Alphabet.{Alphabet}
use Rattle.rl_types.specs.declared.alphabet.Alphabet.TheVariants.{Char, UnsignedChar, Short, UnsignedShort, Int, UnsignedInt}
use Rattle.rl_types.specs.Alphabet.{least_key, greatest_key, has_key}
use Rattle.rl_types.specs.KeyRange.{Range}
use Rattle.rl_leaves.specs.CharacterSets.{byte_key, other_case, is_upper, is_lower}
use Rattle.rl_leaves.specs.Ranges.{only, character_ranges}
use Rattle.rl_leaves.specs.Forms.{Ascend, IsInAlphabet, AreRanges}
use Rattle.rl_leaves.proofs.KeyTests.{le_to, le_from}
use Rattle.rl_leaves.proofs.OrderLaws.{EndBefore}
use Rattle.rl_leaves.proofs.GatherLaws.{byte_least, byte_end, ends_fit}
use Rattle.rl_leaves.proofs.GatherLaws as byte

-- a key between the least and the greatest one
pub has_between : (alphabet : Alphabet) (key : ℤ) → least_key alphabet ≤ℤ key → key ≤ℤ greatest_key alphabet → has_key alphabet key ≡ true
has_between alphabet key l h = and_from _ _ (le_to (least_key alphabet) key l) (le_to key (greatest_key alphabet) h)

all_within : (alphabet : Alphabet) (low : ℤ) (rs : List Range) → least_key alphabet ≤ℤ low → Ascend low rs → EndBefore (greatest_key alphabet +ℤ pos 1) rs
    → All (IsInAlphabet alphabet) rs
all_within alphabet low [] l a e = All-nil (IsInAlphabet alphabet)
all_within alphabet low (r ∷ rs) l a e =
    let first : low ≤ℤ r.lo = a.0 in
    let second : r.lo ≤ℤ r.hi = a.1 in
    let third : r.hi <ℤ (greatest_key alphabet +ℤ pos 1) = e.0 in
    All-cons (IsInAlphabet alphabet) r rs
    (and_from _ _ (has_between alphabet r.lo (omega (arith, ints)) (omega (arith, ints))) (has_between alphabet r.hi (omega (arith, ints)) (omega (arith, ints))))
    (all_within alphabet (r.hi +ℤ pos 2) rs (omega (arith, ints)) a.2 e.1)

pub form_from : (alphabet : Alphabet) (rs : List Range) → Ascend (least_key alphabet) rs → EndBefore (greatest_key alphabet +ℤ pos 1) rs → length rs ≤ 256
    → AreRanges alphabet rs
form_from alphabet rs a e f = record { ascend = a; within = all_within alphabet (least_key alphabet) rs (omega (arith, ints)) a e; few = f }

-- one range
pub one_form : (alphabet : Alphabet) (lo hi : ℤ) → least_key alphabet ≤ℤ lo → lo ≤ℤ hi → hi ≤ℤ greatest_key alphabet
    → AreRanges alphabet (record { lo = lo; hi = hi } ∷ [])
one_form alphabet lo hi a b c = form_from alphabet (record { lo = lo; hi = hi } ∷ []) (a, b, tt) (omega (arith, ints), tt) (omega arith)

pub two_form : (alphabet : Alphabet) (x y : ℤ) → least_key alphabet ≤ℤ x → (x +ℤ pos 2) ≤ℤ y → y ≤ℤ greatest_key alphabet
    → AreRanges alphabet (only x ∷ only y ∷ [])
two_form alphabet x y a b c =
    form_from alphabet (only x ∷ only y ∷ []) (a, omega (arith, ints), (b, omega (arith, ints), tt)) (omega (arith, ints), (omega (arith, ints), tt)) (omega arith)

-- one range between keys of the alphabet
pub tested_form : (alphabet : Alphabet) (lo hi : ℤ) → has_key alphabet lo ≡ true → lo ≤ℤ hi → has_key alphabet hi ≡ true
    → AreRanges alphabet (record { lo = lo; hi = hi } ∷ [])
tested_form alphabet lo hi a b c =
    one_form alphabet lo hi (le_from _ _ (and_parts (int_le (least_key alphabet) lo) (int_le lo (greatest_key alphabet)) a).0) b
    (le_from _ _ (and_parts (int_le (least_key alphabet) hi) (int_le hi (greatest_key alphabet)) c).1)

-- ---- one character

key_between : (alphabet : Alphabet) (b : ℕ) → (least_key alphabet ≤ℤ byte_key alphabet b) × (byte_key alphabet b ≤ℤ greatest_key alphabet)
key_between alphabet b =
    let key = byte.key_between alphabet b in
    let low : byte_least alphabet ≤ℤ byte_key alphabet b = key.0 in
    let high : byte_key alphabet b <ℤ byte_end alphabet = key.1 in
    let ends = ends_fit alphabet in
    let least : least_key alphabet ≤ℤ byte_least alphabet = ends.0 in
    let greatest : byte_end alphabet ≤ℤ (greatest_key alphabet +ℤ pos 1) = ends.1 in
    (omega (arith, ints), omega (arith, ints))

alone : (alphabet : Alphabet) (key : ℤ) → least_key alphabet ≤ℤ key → key ≤ℤ greatest_key alphabet → AreRanges alphabet (only key ∷ [])
alone alphabet key a b = one_form alphabet key key a (omega (arith, ints)) b

pub letter_bounds : (alphabet : Alphabet) → (least_key alphabet ≤ℤ pos 0) × (pos 127 ≤ℤ greatest_key alphabet)
letter_bounds Char = (omega (arith, ints), omega (arith, ints))
letter_bounds UnsignedChar = (omega (arith, ints), omega (arith, ints))
letter_bounds Short = (omega (arith, ints), omega (arith, ints))
letter_bounds UnsignedShort = (omega (arith, ints), omega (arith, ints))
letter_bounds Int = (omega (arith, ints), omega (arith, ints))
letter_bounds UnsignedInt = (omega (arith, ints), omega (arith, ints))

upper_form : (alphabet : Alphabet) (key : ℤ) → is_upper key ≡ true → AreRanges alphabet (only key ∷ only (other_case key) ∷ [])
upper_form alphabet key h =
    let parts = and_parts (int_le (pos 65) key) (int_le key (pos 90)) h in
    let low : pos 65 ≤ℤ key = le_from (pos 65) key parts.0 in
    let high : key ≤ℤ pos 90 = le_from key (pos 90) parts.1 in
    let other : other_case key ≡ key +ℤ pos 32 = ap (λ z. cond z (key +ℤ pos 32) (cond (is_lower key) (key -ℤ pos 32) key)) h in
    let least : least_key alphabet ≤ℤ pos 0 = (letter_bounds alphabet).0 in
    let greatest : pos 127 ≤ℤ greatest_key alphabet = (letter_bounds alphabet).1 in
    let P : ℤ → Type 0 = λ z. AreRanges alphabet (only key ∷ only z ∷ []) in
    subst P (sym other) (two_form alphabet key (key +ℤ pos 32) (omega (arith, ints)) (omega (arith, ints)) (omega (arith, ints)))

lower_form : (alphabet : Alphabet) (key : ℤ) → is_upper key ≡ false → is_lower key ≡ true → AreRanges alphabet (only (other_case key) ∷ only key ∷ [])
lower_form alphabet key u h =
    let parts = and_parts (int_le (pos 97) key) (int_le key (pos 122)) h in
    let low : pos 97 ≤ℤ key = le_from (pos 97) key parts.0 in
    let high : key ≤ℤ pos 122 = le_from key (pos 122) parts.1 in
    let other : other_case key ≡ key -ℤ pos 32 =
    ap (λ z. cond z (key +ℤ pos 32) (cond (is_lower key) (key -ℤ pos 32) key)) u ∙ ap (λ z. cond z (key -ℤ pos 32) key) h in
    let least : least_key alphabet ≤ℤ pos 0 = (letter_bounds alphabet).0 in
    let greatest : pos 127 ≤ℤ greatest_key alphabet = (letter_bounds alphabet).1 in
    let P : ℤ → Type 0 = λ z. AreRanges alphabet (only z ∷ only key ∷ []) in
    subst P (sym other) (two_form alphabet (key -ℤ pos 32) key (omega (arith, ints)) (omega (arith, ints)) (omega (arith, ints)))

folded : (alphabet : Alphabet) (key : ℤ) (u l : Bool) → is_upper key ≡ u → is_lower key ≡ l → least_key alphabet ≤ℤ key → key ≤ℤ greatest_key alphabet
    → AreRanges alphabet (cond u (only key ∷ only (other_case key) ∷ []) (cond l (only (other_case key) ∷ only key ∷ []) (only key ∷ [])))
folded alphabet key true l e f a b = upper_form alphabet key e
folded alphabet key false true e f a b = lower_form alphabet key e f
folded alphabet key false false e f a b = alone alphabet key a b

key_form : (alphabet : Alphabet) (folds : Bool) (key : ℤ) → least_key alphabet ≤ℤ key → key ≤ℤ greatest_key alphabet
    → AreRanges alphabet (cond (folds && is_upper key) (only key ∷ only (other_case key) ∷ []) (cond (folds && is_lower key) (only (other_case key) ∷ only key ∷ []) (only key ∷ [])))
key_form alphabet true key a b = folded alphabet key (is_upper key) (is_lower key) refl refl a b
key_form alphabet false key a b = alone alphabet key a b

pub character_form : (alphabet : Alphabet) (folds : Bool) (b : ℕ) → AreRanges alphabet (character_ranges alphabet folds b)
character_form alphabet folds b =
    let between = key_between alphabet b in
    key_form alphabet folds (byte_key alphabet b) between.0 between.1

-- what is equal to a value of a form has the form
pub made_form : {T E : Type 0} (P : T → Type 0) (v : T) (r : Result T E) → P v → IfOk r (λ x. x ≡ v) → IfOk r P
made_form P v (Ok x) p e = subst P (sym e) p
made_form P v (Err x) p e = tt
