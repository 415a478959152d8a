-- The ranges of spans: they lie among the keys of bytes, and have the keys that the spans name.
use Rattle.std.proofs.Common.{◌≡◌, ℕ, ◌-◌, ◌<◌, ◌≤◌, ◌%◌, Bool, true, false, cond, ◌&&◌, ◌||◌, ◌⊎◌, ℤ, pos, negsuc, ◌+ℤ◌, ◌-ℤ◌}
use Rattle.std.proofs.Common.{◌≤ℤ◌, ◌<ℤ◌, int_le, List, [], ◌∷◌, refl, sym, ap, subst, ◌∙◌, inl, inr, arith, ltb-true, ltb-false, mod-lt}
use Rattle.std.specs.Prelude.{nat_lt, IfSome, Option, Some, None}
use Rattle.std.specs.Int.{int_min, int_max}
use Rattle.std.proofs.lemmas.Int.{ints, clamps, by_lt_z}
use Rattle.std.proofs.lemmas.Bool.{and_parts, and_from, and_left, false≢true}
use Rattle.rl_types.specs.declared.alphabet.Alphabet.{Alphabet}
use Rattle.rl_types.specs.declared.alphabet.Alphabet.TheVariants.{Char, UnsignedChar, Short, UnsignedShort, Int, UnsignedInt}
use Rattle.rl_types.specs.Alphabet.{least_key, greatest_key}
use Rattle.rl_types.specs.KeyRange.{Range, in_range}
use Rattle.rl_leaves.specs.declared.character_set.Span.{Span}
use Rattle.rl_leaves.specs.CharacterSets.{byte_key, range_of, is_upper, is_lower, other_case, in_spans, is_named}
use Rattle.rl_leaves.specs.Ranges.{in_ranges, put, put_some, part, moved, put_cases, put_range, put_span, put_spans}
use Rattle.rl_leaves.specs.Forms.{Ascend}
use Rattle.rl_leaves.proofs.KeyTests.{le_to, le_from, above, inside, within, below, behind, outside, alike, or_false}
use Rattle.rl_leaves.proofs.OrderLaws.{EndBefore}
use Rattle.rl_leaves.proofs.PutLaws.{ascend_put, end_put, key_put}

-- ranges from the one key to before the other that have the keys of a test
pub record Gathered (low high : ℤ) (test : ℤ → Bool) (rs : List Range) : Type 0 where
  pub ascend : Ascend low rs
  pub ends : EndBefore high rs
  pub keys : (q : ℤ) → in_ranges q rs ≡ test q

retold : (low high : ℤ) (test other : ℤ → Bool) (rs : List Range) → ((q : ℤ) → test q ≡ other q) → Gathered low high test rs → Gathered low high other rs
retold low high test other rs e h = record { ascend = h.ascend; ends = h.ends; keys = λ q. h.keys q ∙ e q }

record Between (low high : ℤ) (r : Range) : Type 0 where
  lower : low ≤ℤ r.lo
  ordered : r.lo ≤ℤ r.hi
  upper : r.hi <ℤ high

with_range : (low high : ℤ) (test : ℤ → Bool) (rs : List Range) (r : Range) → Between low high r → Gathered low high test rs
    → Gathered low high (λ q. in_range q r || test q) (put r rs)
with_range low high test rs r b h = record {
  ascend = ascend_put low r rs b.lower b.ordered h.ascend;
  ends = end_put high r rs b.upper h.ends;
  keys = λ q. key_put low q r rs b.ordered h.ascend ∙ ap (λ z. in_range q r || z) (h.keys q);
}

-- ---- one range or none

-- a key is outside where the lower end is above the upper one
apart : (lo hi q : ℤ) → hi <ℤ lo → (q <ℤ lo) ⊎ (hi <ℤ q)
apart lo hi q h = by_lt_z q lo (λ l. inl l) (λ l. inr (omega (arith, ints)))

in_some : ℤ → Option Range → Bool
in_some q None = false
in_some q (Some r) = in_range q r

MayBetween : ℤ → ℤ → Option Range → Type 0
MayBetween low high None = Unit {0}
MayBetween low high (Some r) = Between low high r

with_some : (low high : ℤ) (test : ℤ → Bool) (rs : List Range) (o : Option Range) → MayBetween low high o → Gathered low high test rs
    → Gathered low high (λ q. in_some q o || test q) (put_some o rs)
unfolding in_some MayBetween
with_some low high test rs None b h = h
with_some low high test rs (Some r) b h = with_range low high test rs r b h

some_cases : (low high lo hi by : ℤ) (t : Bool) → int_le lo hi ≡ t → low ≤ℤ (lo +ℤ by) → (hi +ℤ by) <ℤ high
    → MayBetween low high (moved by (cond t (Some (record { lo = lo; hi = hi })) None))
unfolding MayBetween
some_cases low high lo hi by true e a b =
    let ordered = le_from lo hi e in
    record { lower = a; ordered = omega (arith, ints); upper = b }
some_cases low high lo hi by false e a b = tt

some_has : (lo hi by q : ℤ) (t : Bool) → int_le lo hi ≡ t
    → in_some q (moved by (cond t (Some (record { lo = lo; hi = hi })) None)) ≡ in_range q (record { lo = lo +ℤ by; hi = hi +ℤ by })
unfolding in_some
some_has lo hi by q true e = refl
some_has lo hi by q false e =
    let none = above lo hi e in
    elim (apart (lo +ℤ by) (hi +ℤ by) q (omega (arith, ints))) [
      | inl l ↦ sym (below q (record { lo = lo +ℤ by; hi = hi +ℤ by }) l)
      | inr l ↦ sym (behind q (record { lo = lo +ℤ by; hi = hi +ℤ by }) l)
    ]

-- ---- case ignored

part_to : (first last by q : ℤ) (r : Range) → in_range q (record { lo = int_max r.lo first +ℤ by; hi = int_min r.hi last +ℤ by }) ≡ true
    → ((int_le (first +ℤ by) q && int_le q (last +ℤ by)) && in_range (q -ℤ by) r) ≡ true
part_to first last by q r h =
    let k = within q (record { lo = int_max r.lo first +ℤ by; hi = int_min r.hi last +ℤ by }) h in
    let a : (int_max r.lo first +ℤ by) ≤ℤ q = k.0 in
    let b : q ≤ℤ (int_min r.hi last +ℤ by) = k.1 in
    and_from (int_le (first +ℤ by) q && int_le q (last +ℤ by)) (in_range (q -ℤ by) r)
    (and_from (int_le (first +ℤ by) q) (int_le q (last +ℤ by)) (le_to (first +ℤ by) q (omega (arith, ints, clamps)))
    (le_to q (last +ℤ by) (omega (arith, ints, clamps))))
    (inside (q -ℤ by) r (omega (arith, ints, clamps)) (omega (arith, ints, clamps)))

part_from : (first last by q : ℤ) (r : Range) → ((int_le (first +ℤ by) q && int_le q (last +ℤ by)) && in_range (q -ℤ by) r) ≡ true
    → in_range q (record { lo = int_max r.lo first +ℤ by; hi = int_min r.hi last +ℤ by }) ≡ true
part_from first last by q r h =
    let parts = and_parts (int_le (first +ℤ by) q && int_le q (last +ℤ by)) (in_range (q -ℤ by) r) h in
    let ends = and_parts (int_le (first +ℤ by) q) (int_le q (last +ℤ by)) parts.0 in
    let k = within (q -ℤ by) r parts.1 in
    let a : (first +ℤ by) ≤ℤ q = le_from (first +ℤ by) q ends.0 in
    let b : q ≤ℤ (last +ℤ by) = le_from q (last +ℤ by) ends.1 in
    let c : r.lo ≤ℤ (q -ℤ by) = k.0 in
    let d : (q -ℤ by) ≤ℤ r.hi = k.1 in
    inside q (record { lo = int_max r.lo first +ℤ by; hi = int_min r.hi last +ℤ by }) (omega (arith, ints, clamps)) (omega (arith, ints, clamps))

low_cases : (first last : ℤ) (r : Range) (t : Bool)
    → IfSome (cond t (Some (record { lo = int_max r.lo first; hi = int_min r.hi last })) None) (λ (x : Range). first ≤ℤ x.lo)
low_cases first last r true = omega (arith, ints, clamps)
low_cases first last r false = tt

high_cases : (first last : ℤ) (r : Range) (t : Bool)
    → IfSome (cond t (Some (record { lo = int_max r.lo first; hi = int_min r.hi last })) None) (λ (x : Range). x.hi ≤ℤ last)
high_cases first last r true = omega (arith, ints, clamps)
high_cases first last r false = tt

-- a part begins and ends between its ends
pub part_low : (first last : ℤ) (r : Range) (o : Option Range) → o ≡ part first last r → IfSome o (λ (x : Range). first ≤ℤ x.lo)
part_low first last r o e =
    subst (λ z. IfSome z (λ (x : Range). first ≤ℤ x.lo)) (sym e) (low_cases first last r (int_le (int_max r.lo first) (int_min r.hi last)))

pub part_high : (first last : ℤ) (r : Range) (o : Option Range) → o ≡ part first last r → IfSome o (λ (x : Range). x.hi ≤ℤ last)
part_high first last r o e =
    subst (λ z. IfSome z (λ (x : Range). x.hi ≤ℤ last)) (sym e) (high_cases first last r (int_le (int_max r.lo first) (int_min r.hi last)))

-- what is moved is between the moved ends, and comes from the range
moved_has : (first last by q : ℤ) (r : Range)
    → in_some q (moved by (part first last r)) ≡ ((int_le (first +ℤ by) q && int_le q (last +ℤ by)) && in_range (q -ℤ by) r)
moved_has first last by q r =
    some_has (int_max r.lo first) (int_min r.hi last) by q (int_le (int_max r.lo first) (int_min r.hi last)) refl
    ∙ alike _ _ (part_to first last by q r) (part_from first last by q r)

moved_between : (low high first last by : ℤ) (r : Range) → low ≤ℤ (first +ℤ by) → (last +ℤ by) <ℤ high → MayBetween low high (moved by (part first last r))
moved_between low high first last by r a b =
    some_cases low high (int_max r.lo first) (int_min r.hi last) by (int_le (int_max r.lo first) (int_min r.hi last)) refl
    (omega (arith, ints, clamps)) (omega (arith, ints, clamps))

not_both : (q : ℤ) → is_upper q ≡ true → is_lower q ≡ false
not_both q h =
    let k = within q (record { lo = pos 65; hi = pos 90 }) h in
    let high : q ≤ℤ pos 90 = k.1 in
    below q (record { lo = pos 97; hi = pos 122 }) (omega (arith, ints))

turned : (x y : Bool) → (x || (false || y)) ≡ (y || x)
turned true true = refl
turned true false = refl
turned false true = refl
turned false false = refl

turned_back : (x y : Bool) → (false || (x || y)) ≡ (y || x)
turned_back true true = refl
turned_back true false = refl
turned_back false true = refl
turned_back false false = refl

once_more : (x : Bool) → (false || (false || x)) ≡ (x || x)
once_more true = refl
once_more false = refl

case_cases : (q : ℤ) (r : Range) (u l : Bool) → is_upper q ≡ u → is_lower q ≡ l
    → ((u && in_range (q -ℤ negsuc 31) r) || ((l && in_range (q -ℤ pos 32) r) || in_range q r))
    ≡ (in_range q r || in_range (cond u (q +ℤ pos 32) (cond l (q -ℤ pos 32) q)) r)
case_cases q r true true e f = absurd (false≢true (sym (not_both q e) ∙ f))
case_cases q r true false e f =
    let back : q -ℤ negsuc 31 ≡ q +ℤ pos 32 = omega (arith, ints) in
    ap (λ z. in_range z r || (false || in_range q r)) back ∙ turned (in_range (q +ℤ pos 32) r) (in_range q r)
case_cases q r false true e f = turned_back (in_range (q -ℤ pos 32) r) (in_range q r)
case_cases q r false false e f = once_more (in_range q r)

or_assoc : (x y z t : Bool) → (x || (y || (z || t))) ≡ ((x || (y || z)) || t)
or_assoc true y z t = refl
or_assoc false true z t = refl
or_assoc false false z t = refl

-- the range has a key or, where case is ignored, the key in the other case
abbrev names : Bool → Range → ℤ → Bool
names folds r q = in_range q r || (folds && in_range (other_case q) r)

both_cases : (q : ℤ) (r : Range) (t : Bool)
    → (in_some q (moved (negsuc 31) (part (pos 97) (pos 122) r)) || (in_some q (moved (pos 32) (part (pos 65) (pos 90) r)) || (in_range q r || t)))
    ≡ (names true r q || t)
both_cases q r t =
    ap (λ z. z || (in_some q (moved (pos 32) (part (pos 65) (pos 90) r)) || (in_range q r || t))) (moved_has (pos 97) (pos 122) (negsuc 31) q r)
    ∙ (ap (λ z. (is_upper q && in_range (q -ℤ negsuc 31) r) || (z || (in_range q r || t))) (moved_has (pos 65) (pos 90) (pos 32) q r)
    ∙ (or_assoc (is_upper q && in_range (q -ℤ negsuc 31) r) (is_lower q && in_range (q -ℤ pos 32) r) (in_range q r) t
    ∙ ap (λ z. z || t) (case_cases q r (is_upper q) (is_lower q) refl refl)))

with_cases : (low high : ℤ) (test : ℤ → Bool) (rs : List Range) (folds : Bool) (r : Range) → low ≤ℤ pos 0 → pos 127 <ℤ high → Between low high r
    → Gathered low high test rs → Gathered low high (λ q. names folds r q || test q) (put_cases folds r rs)
with_cases low high test rs false r l u b h =
    retold low high (λ q. in_range q r || test q) (λ q. names false r q || test q) (put r rs) (λ q. ap (λ z. z || test q) (sym (or_false (in_range q r))))
    (with_range low high test rs r b h)
with_cases low high test rs true r l u b h =
    let capitals = moved (pos 32) (part (pos 65) (pos 90) r) in
    let smalls = moved (negsuc 31) (part (pos 97) (pos 122) r) in
    retold low high (λ q. in_some q smalls || (in_some q capitals || (in_range q r || test q))) (λ q. names true r q || test q) (put_cases true r rs)
    (λ q. both_cases q r (test q))
    (with_some low high (λ q. in_some q capitals || (in_range q r || test q)) (put_some capitals (put r rs)) smalls
    (moved_between low high (pos 97) (pos 122) (negsuc 31) r (omega (arith, ints)) (omega (arith, ints)))
    (with_some low high (λ q. in_range q r || test q) (put r rs) capitals
    (moved_between low high (pos 65) (pos 90) (pos 32) r (omega (arith, ints)) (omega (arith, ints)))
    (with_range low high test rs r b h)))

-- ---- the keys of bytes

abbrev pub byte_least : Alphabet → ℤ
byte_least Char = negsuc 127
byte_least UnsignedChar = pos 0
byte_least Short = pos 0
byte_least UnsignedShort = pos 0
byte_least Int = pos 0
byte_least UnsignedInt = pos 0

abbrev pub byte_end : Alphabet → ℤ
byte_end alphabet = byte_least alphabet +ℤ pos 256

char_cases : (b : ℕ) (t : Bool) → nat_lt b 128 ≡ t → b < 256
    → (negsuc 127 ≤ℤ cond t (pos b) (negsuc (255 - b))) × (cond t (pos b) (negsuc (255 - b)) <ℤ pos 128)
char_cases b true e l = let small : b < 128 = ltb-true b 128 e in (omega (arith, ints), omega (arith, ints))
char_cases b false e l = let large : 128 ≤ b = ltb-false b 128 e in (omega (arith, ints), omega (arith, ints))

plain_case : (b : ℕ) → b < 256 → (pos 0 ≤ℤ pos b) × (pos b <ℤ pos 256)
plain_case b l = (omega (arith, ints), omega (arith, ints))

wide_cases : (b half last : ℕ) (t : Bool) → nat_lt b half ≡ t → b < 256 → 256 ≤ half
    → (pos 0 ≤ℤ cond t (pos b) (negsuc (last - b))) × (cond t (pos b) (negsuc (last - b)) <ℤ pos 256)
wide_cases b half last true e l h = plain_case b l
wide_cases b half last false e l h = let large : half ≤ b = ltb-false b half e in absurd (omega arith)

pub key_between : (alphabet : Alphabet) (b : ℕ) → (byte_least alphabet ≤ℤ byte_key alphabet b) × (byte_key alphabet b <ℤ byte_end alphabet)
key_between Char b = char_cases (b % 256) (nat_lt (b % 256) 128) refl (mod-lt b (omega arith))
key_between UnsignedChar b = plain_case (b % 256) (mod-lt b (omega arith))
key_between Short b = wide_cases (b % 256) 32768 65535 (nat_lt (b % 256) 32768) refl (mod-lt b (omega arith)) (omega arith)
key_between UnsignedShort b = plain_case (b % 256) (mod-lt b (omega arith))
key_between Int b = wide_cases (b % 256) 2147483648 4294967295 (nat_lt (b % 256) 2147483648) refl (mod-lt b (omega arith)) (omega arith)
key_between UnsignedInt b = plain_case (b % 256) (mod-lt b (omega arith))

letters_between : (alphabet : Alphabet) → (byte_least alphabet ≤ℤ pos 0) × (pos 127 <ℤ byte_end alphabet)
letters_between Char = (omega (arith, ints), omega (arith, ints))
letters_between UnsignedChar = (omega (arith, ints), omega (arith, ints))
letters_between Short = (omega (arith, ints), omega (arith, ints))
letters_between UnsignedShort = (omega (arith, ints), omega (arith, ints))
letters_between Int = (omega (arith, ints), omega (arith, ints))
letters_between UnsignedInt = (omega (arith, ints), omega (arith, ints))

-- they are keys of the alphabet
pub ends_fit : (alphabet : Alphabet) → (least_key alphabet ≤ℤ byte_least alphabet) × (byte_end alphabet ≤ℤ (greatest_key alphabet +ℤ pos 1))
ends_fit Char = (omega (arith, ints), omega (arith, ints))
ends_fit UnsignedChar = (omega (arith, ints), omega (arith, ints))
ends_fit Short = (omega (arith, ints), omega (arith, ints))
ends_fit UnsignedShort = (omega (arith, ints), omega (arith, ints))
ends_fit Int = (omega (arith, ints), omega (arith, ints))
ends_fit UnsignedInt = (omega (arith, ints), omega (arith, ints))

pub least_fits : (alphabet : Alphabet) → negsuc 4294967296 ≤ℤ least_key alphabet
least_fits Char = omega (arith, ints)
least_fits UnsignedChar = omega (arith, ints)
least_fits Short = omega (arith, ints)
least_fits UnsignedShort = omega (arith, ints)
least_fits Int = omega (arith, ints)
least_fits UnsignedInt = omega (arith, ints)

pub greatest_fits : (alphabet : Alphabet) → greatest_key alphabet ≤ℤ pos 4294967296
greatest_fits Char = omega (arith, ints)
greatest_fits UnsignedChar = omega (arith, ints)
greatest_fits Short = omega (arith, ints)
greatest_fits UnsignedShort = omega (arith, ints)
greatest_fits Int = omega (arith, ints)
greatest_fits UnsignedInt = omega (arith, ints)

-- ---- spans

none_named : (folds : Bool) (r : Range) (q : ℤ) → r.hi <ℤ r.lo → in_range q r ≡ false
none_named folds r q l = elim (apart r.lo r.hi q l) [ inl a ↦ below q r a | inr a ↦ behind q r a ]

and_none : (f : Bool) → (f && false) ≡ false
and_none true = refl
and_none false = refl

span_cases : (alphabet : Alphabet) (test : ℤ → Bool) (rs : List Range) (folds : Bool) (s : Span) (t : Bool)
    → int_le (byte_key alphabet s.lower) (byte_key alphabet s.upper) ≡ t
    → Gathered (byte_least alphabet) (byte_end alphabet) test rs
    → Gathered (byte_least alphabet) (byte_end alphabet) (λ q. names folds (range_of alphabet s) q || test q)
    (put_range folds (cond t (Some (range_of alphabet s)) None) rs)
span_cases alphabet test rs folds s false e h =
    let reversed = above (byte_key alphabet s.lower) (byte_key alphabet s.upper) e in
    let r = range_of alphabet s in
    retold (byte_least alphabet) (byte_end alphabet) test (λ q. names folds r q || test q) rs
    (λ q. sym (ap (λ z. (z || (folds && in_range (other_case q) r)) || test q) (none_named folds r q reversed)
    ∙ (ap (λ z. (folds && z) || test q) (none_named folds r (other_case q) reversed) ∙ ap (λ z. z || test q) (and_none folds)))) h
span_cases alphabet test rs folds s true e h =
    let letters = letters_between alphabet in
    with_cases (byte_least alphabet) (byte_end alphabet) test rs folds (range_of alphabet s) letters.0 letters.1
    (record {
      lower = (key_between alphabet s.lower).0;
      ordered = le_from (byte_key alphabet s.lower) (byte_key alphabet s.upper) e;
      upper = (key_between alphabet s.upper).1;
    }) h

regroup : (f a a' b b' t : Bool) → ((b || (f && b')) || ((a || (f && a')) || t)) ≡ (((a || b) || (f && (a' || b'))) || t)
regroup f true a' true b' t = refl
regroup false true a' false b' t = refl
regroup true true a' false true t = refl
regroup true true a' false false t = refl
regroup f false a' true b' t = refl
regroup false false a' false b' t = refl
regroup true false true false true t = refl
regroup true false true false false t = refl
regroup true false false false true t = refl
regroup true false false false false t = refl

spans_gathered : (alphabet : Alphabet) (test : ℤ → Bool) (rs : List Range) (folds : Bool) (ss : List Span)
    → Gathered (byte_least alphabet) (byte_end alphabet) test rs
    → Gathered (byte_least alphabet) (byte_end alphabet) (λ q. is_named alphabet folds ss q || test q) (put_spans alphabet folds ss rs)
unfolding put_spans
spans_gathered alphabet test rs folds [] h =
    retold (byte_least alphabet) (byte_end alphabet) test (λ q. is_named alphabet folds [] q || test q) rs
    (λ q. sym (ap (λ z. z || test q) (and_none folds))) h
spans_gathered alphabet test rs folds (s ∷ ss) h =
    let r = range_of alphabet s in
    retold (byte_least alphabet) (byte_end alphabet) (λ q. is_named alphabet folds ss q || (names folds r q || test q))
    (λ q. is_named alphabet folds (s ∷ ss) q || test q) (put_spans alphabet folds ss (put_span alphabet folds s rs))
    (λ q. regroup folds (in_range q r) (in_range (other_case q) r) (in_spans alphabet ss q) (in_spans alphabet ss (other_case q)) (test q))
    (spans_gathered alphabet (λ q. names folds r q || test q) (put_span alphabet folds s rs) folds ss
    (span_cases alphabet test rs folds s (int_le (byte_key alphabet s.lower) (byte_key alphabet s.upper)) refl h))

-- the ranges of spans lie among the keys of bytes, and have the keys that the spans name
pub named_gathered : (alphabet : Alphabet) (folds : Bool) (ss : List Span)
    → Gathered (byte_least alphabet) (byte_end alphabet) (is_named alphabet folds ss) (put_spans alphabet folds ss [])
named_gathered alphabet folds ss =
    retold (byte_least alphabet) (byte_end alphabet) (λ q. is_named alphabet folds ss q || false) (is_named alphabet folds ss) (put_spans alphabet folds ss [])
    (λ q. or_false (is_named alphabet folds ss q))
    (spans_gathered alphabet (λ q. false) [] folds ss (record { ascend = tt; ends = tt; keys = λ q. refl }))
