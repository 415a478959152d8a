-- The ranges of one character have the keys that a set of this character has.
use Rattle.std.proofs.Common.{◌≡◌, ℕ, Bool, true, false, cond, ◌&&◌, ◌||◌, ℤ, pos, ◌+ℤ◌, ◌-ℤ◌, ◌≤ℤ◌, ◌<ℤ◌, int_le, [], ◌∷◌, refl, ap, sym, ◌∙◌, inl, inr, arith}
use Rattle.std.proofs.lemmas.Int.{ints}
use Rattle.std.proofs.lemmas.Bool.{and_parts, false≢true}
use Rattle.rl_types.specs.declared.alphabet.Alphabet.{Alphabet}
use Rattle.rl_types.specs.KeyRange.{in_range}
use Rattle.rl_leaves.specs.CharacterSets.{byte_key, is_upper, is_lower, other_case, is_named}
use Rattle.rl_leaves.specs.Ranges.{only, in_ranges, character_ranges}
use Rattle.rl_leaves.proofs.KeyTests.{le_from, le_to, not_le, order, or_false}

-- a key is a key
at : ℤ → ℤ → Bool
at q k = in_range q (only k)

and_false : (a : Bool) → (a && false) ≡ false
and_false true = refl
and_false false = refl

below : (q k : ℤ) → q <ℤ k → at q k ≡ false
unfolding at
below q k l = let no = not_le k q l in rw no refl

above : (q k : ℤ) → k <ℤ q → at q k ≡ false
unfolding at
above q k l = ap (λ z. int_le k q && z) (not_le q k l) ∙ and_false (int_le k q)

here : (q k : ℤ) → q ≡ k → at q k ≡ true
unfolding at
here q k e =
    let first : int_le k q ≡ true = le_to k q (omega (arith, ints)) in
    let second : int_le q k ≡ true = le_to q k (omega (arith, ints)) in
    rw (first, second) refl

and_swapped : (a b : Bool) → (a && b) ≡ false → (b && a) ≡ false
and_swapped true true e = e
and_swapped true false e = refl
and_swapped false true e = refl
and_swapped false false e = refl

flipped : (q k : ℤ) → at k q ≡ false → at q k ≡ false
unfolding at
flipped q k e = and_swapped (int_le q k) (int_le k q) e

or_same : (x : Bool) → (x || x) ≡ x
or_same true = refl
or_same false = refl

-- two keys are apart where one is in an interval that the other is not in
apart : (q k low high : ℤ) → low ≤ℤ k → k ≤ℤ high → (int_le low q && int_le q high) ≡ false → at q k ≡ false
apart q k low high a b e = elim (order q k) [
  | inl l ↦ below q k l
  | inr other ↦ elim other [
    | inl same ↦
        let first : int_le low q ≡ true = le_to low q (omega (arith, ints)) in
        let second : int_le q high ≡ true = le_to q high (omega (arith, ints)) in
        let both : (int_le low q && int_le q high) ≡ true = rw (first, second) refl in
        absurd (false≢true (sym e ∙ both))
    | inr l ↦ above q k l
  ]
]

-- shifted alike, they are the same or apart alike
shifted : (q k n : ℤ) → at q (k +ℤ n) ≡ at (q -ℤ n) k
shifted q k n = elim (order q (k +ℤ n)) [
  | inl l ↦ below q (k +ℤ n) l ∙ sym (below (q -ℤ n) k (omega (arith, ints)))
  | inr other ↦ elim other [
    | inl same ↦ here q (k +ℤ n) same ∙ sym (here (q -ℤ n) k (omega (arith, ints)))
    | inr l ↦ above q (k +ℤ n) l ∙ sym (above (q -ℤ n) k (omega (arith, ints)))
  ]
]

up_other : (q : ℤ) → is_upper q ≡ true → other_case q ≡ q +ℤ pos 32
up_other q u = ap (λ z. cond z (q +ℤ pos 32) (cond (is_lower q) (q -ℤ pos 32) q)) u

down_other : (q : ℤ) → is_upper q ≡ false → is_lower q ≡ true → other_case q ≡ q -ℤ pos 32
down_other q u l = ap (λ z. cond z (q +ℤ pos 32) (cond (is_lower q) (q -ℤ pos 32) q)) u ∙ ap (λ z. cond z (q -ℤ pos 32) q) l

no_other : (q : ℤ) → is_upper q ≡ false → is_lower q ≡ false → other_case q ≡ q
no_other q u l = ap (λ z. cond z (q +ℤ pos 32) (cond (is_lower q) (q -ℤ pos 32) q)) u ∙ ap (λ z. cond z (q -ℤ pos 32) q) l

record Between (low high k : ℤ) : Type 0 where
  lower : low ≤ℤ k
  upper : k ≤ℤ high

upper_between : (k : ℤ) → is_upper k ≡ true → Between (pos 65) (pos 90) k
upper_between k h =
    let parts = and_parts (int_le (pos 65) k) (int_le k (pos 90)) h in
    record { lower = le_from (pos 65) k parts.0; upper = le_from k (pos 90) parts.1 }

lower_between : (k : ℤ) → is_lower k ≡ true → Between (pos 97) (pos 122) k
lower_between k h =
    let parts = and_parts (int_le (pos 97) k) (int_le k (pos 122)) h in
    record { lower = le_from (pos 97) k parts.0; upper = le_from k (pos 122) parts.1 }

-- a key is the other case of a capital letter exactly where its other case is that letter
capital : (q k : ℤ) (a b : Bool) → is_upper q ≡ a → is_lower q ≡ b → Between (pos 65) (pos 90) k → at q (k +ℤ pos 32) ≡ at (other_case q) k
capital q k true b e f h =
    let is = upper_between q e in
    let l = h.lower in
    let u = h.upper in
    let m = is.lower in
    let n = is.upper in
    below q (k +ℤ pos 32) (omega (arith, ints)) ∙ sym (ap (λ z. at z k) (up_other q e) ∙ above (q +ℤ pos 32) k (omega (arith, ints)))
capital q k false true e f h = shifted q k (pos 32) ∙ sym (ap (λ z. at z k) (down_other q e f))
capital q k false false e f h =
    let l = h.lower in
    let u = h.upper in
    apart q (k +ℤ pos 32) (pos 97) (pos 122) (omega (arith, ints)) (omega (arith, ints)) f
    ∙ sym (ap (λ z. at z k) (no_other q e f) ∙ apart q k (pos 65) (pos 90) l u e)

-- likewise of a small letter
small : (q k : ℤ) (a b : Bool) → is_upper q ≡ a → is_lower q ≡ b → Between (pos 97) (pos 122) k → at q (k -ℤ pos 32) ≡ at (other_case q) k
small q k true b e f h =
    let there : at ((q +ℤ pos 32) -ℤ pos 32) (k -ℤ pos 32) ≡ at (q +ℤ pos 32) ((k -ℤ pos 32) +ℤ pos 32) = sym (shifted (q +ℤ pos 32) (k -ℤ pos 32) (pos 32)) in
    let back : (q +ℤ pos 32) -ℤ pos 32 ≡ q = omega (arith, ints) in
    let forth : (k -ℤ pos 32) +ℤ pos 32 ≡ k = omega (arith, ints) in
    ap (λ z. at z (k -ℤ pos 32)) (sym back) ∙ (there ∙ (ap (λ z. at (q +ℤ pos 32) z) forth ∙ sym (ap (λ z. at z k) (up_other q e))))
small q k false true e f h =
    let is = lower_between q f in
    let l = h.lower in
    let u = h.upper in
    let m = is.lower in
    let n = is.upper in
    above q (k -ℤ pos 32) (omega (arith, ints)) ∙ sym (ap (λ z. at z k) (down_other q e f) ∙ below (q -ℤ pos 32) k (omega (arith, ints)))
small q k false false e f h =
    let l = h.lower in
    let u = h.upper in
    apart q (k -ℤ pos 32) (pos 65) (pos 90) (omega (arith, ints)) (omega (arith, ints)) e
    ∙ sym (ap (λ z. at z k) (no_other q e f) ∙ apart q k (pos 97) (pos 122) l u f)

-- a key that is no letter is no letter's other case
plain : (q k : ℤ) (a b : Bool) → is_upper q ≡ a → is_lower q ≡ b → is_upper k ≡ false → is_lower k ≡ false → (at q k || at (other_case q) k) ≡ at q k
plain q k true b e f u l =
    let is = upper_between q e in
    let m = is.lower in
    let n = is.upper in
    ap (λ z. at q k || z) (ap (λ z. at z k) (up_other q e) ∙ flipped (q +ℤ pos 32) k (apart k (q +ℤ pos 32) (pos 97) (pos 122) (omega (arith, ints)) (omega (arith, ints)) l)) ∙ or_false (at q k)
plain q k false true e f u l =
    let is = lower_between q f in
    let m = is.lower in
    let n = is.upper in
    ap (λ z. at q k || z) (ap (λ z. at z k) (down_other q e f) ∙ flipped (q -ℤ pos 32) k (apart k (q -ℤ pos 32) (pos 65) (pos 90) (omega (arith, ints)) (omega (arith, ints)) u)) ∙ or_false (at q k)
plain q k false false e f u l = ap (λ z. at q k || at z k) (no_other q e f) ∙ or_same (at q k)

first_second : (x y : Bool) → (x || (y || false)) ≡ ((x || false) || (y || false))
first_second true y = refl
first_second false y = refl

second_first : (x y : Bool) → (y || (x || false)) ≡ ((x || false) || (y || false))
second_first true true = refl
second_first true false = refl
second_first false true = refl
second_first false false = refl

first_alone : (x y : Bool) → (x || y) ≡ x → (x || false) ≡ ((x || false) || (y || false))
first_alone true y e = refl
first_alone false y e = sym (ap (λ z. z || false) e)

both_cases : (q k : ℤ) (u l : Bool) → is_upper k ≡ u → is_lower k ≡ l
    → in_ranges q (cond u (only k ∷ only (other_case k) ∷ []) (cond l (only (other_case k) ∷ only k ∷ []) (only k ∷ []))) ≡ ((at q k || false) || (at (other_case q) k || false))
unfolding at
both_cases q k true l e f =
    ap (λ z. at q k || (z || false)) (ap (λ z. at q z) (up_other k e) ∙ capital q k (is_upper q) (is_lower q) refl refl (upper_between k e))
    ∙ first_second (at q k) (at (other_case q) k)
both_cases q k false true e f =
    ap (λ z. z || (at q k || false)) (ap (λ z. at q z) (down_other k e f) ∙ small q k (is_upper q) (is_lower q) refl refl (lower_between k f))
    ∙ second_first (at q k) (at (other_case q) k)
both_cases q k false false e f = first_alone (at q k) (at (other_case q) k) (plain q k (is_upper q) (is_lower q) refl refl e f)

one_case : (x : Bool) → (x || false) ≡ ((x || false) || false)
one_case true = refl
one_case false = refl

-- the ranges of one character have the keys that the set of this character has
pub singles_have : (alphabet : Alphabet) (folds : Bool) (b : ℕ) (q : ℤ)
    → in_ranges q (character_ranges alphabet folds b) ≡ is_named alphabet folds (record { lower = b; upper = b } ∷ []) q
unfolding at
singles_have alphabet true b q = both_cases q (byte_key alphabet b) (is_upper (byte_key alphabet b)) (is_lower (byte_key alphabet b)) refl refl
singles_have alphabet false b q = one_case (at q (byte_key alphabet b))
