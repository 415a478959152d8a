-- The ranges of sets: their form and their keys.
use Rattle.std.proofs.Common.{◌≡◌, ◌+◌, ◌≤◌, Bool, true, false, cond, ◌&&◌, ◌||◌, ◌⊎◌, not, ℤ, pos, ◌+ℤ◌, ◌-ℤ◌, ◌≤ℤ◌}
use Rattle.std.proofs.Common.{◌<ℤ◌, int_le, List, [], ◌∷◌, ◌++◌, length, refl, sym, ap, subst, ◌∙◌, inl, inr, arith}
use Rattle.std.specs.Prelude.{Option, Some, None, option_to_list}
use Rattle.std.proofs.lemmas.Int.{ints, by_lt_z}
use Rattle.rl_types.specs.declared.alphabet.Alphabet.{Alphabet}
use Rattle.rl_types.specs.Alphabet.{least_key, greatest_key, has_key}
use Rattle.rl_types.specs.KeyRange.{Range, in_range}
use Rattle.rl_leaves.specs.declared.character_set.CharacterSet.{CharacterSet}
use Rattle.rl_leaves.specs.declared.character_set.Span.{Span}
use Rattle.rl_leaves.specs.CharacterSets.{is_named, has}
use Rattle.rl_leaves.specs.Ranges.{in_ranges, from_to, put_spans, left_out, complement, set_ranges}
use Rattle.rl_leaves.specs.Forms.{Ascend, AreRanges}
use Rattle.rl_leaves.proofs.KeyTests.{le_from, above, inside, below, behind, outside, within}
use Rattle.rl_leaves.proofs.OrderLaws.{EndBefore, lower, higher, below_none, end_none, few}
use Rattle.rl_leaves.proofs.GatherLaws.{Gathered, byte_least, byte_end, ends_fit, named_gathered}
use Rattle.rl_leaves.proofs.FormLaws.{form_from}

-- ---- one gap before others

apart_cases : (lo hi q : ℤ) → int_le lo hi ≡ false → (q <ℤ lo) ⊎ (hi <ℤ q)
apart_cases lo hi q e = let none = above lo hi e in by_lt_z q lo (λ l. inl l) (λ l. inr (omega (arith, ints)))

-- a key is below the ends, between them, or above
places : (q lo hi : ℤ) → (q <ℤ lo) ⊎ (((lo ≤ℤ q) × (q ≤ℤ hi)) ⊎ (hi <ℤ q))
places q lo hi = by_lt_z q lo (λ l. inl l) (λ l. inr (by_lt_z hi q (λ h. inr h) (λ h. inl (l, h))))

nil_cases : (o : Option Range) → option_to_list o ≡ option_to_list o ++ []
nil_cases None = refl
nil_cases (Some r) = refl

gap_ascend : (low lo hi : ℤ) (rs : List Range) (t : Bool) → int_le lo hi ≡ t → low ≤ℤ lo → Ascend (hi +ℤ pos 2) rs → Ascend low rs
    → Ascend low (option_to_list (cond t (Some (record { lo = lo; hi = hi })) None) ++ rs)
gap_ascend low lo hi rs true e l h g = (l, le_from lo hi e, h)
gap_ascend low lo hi rs false e l h g = g

gap_end : (high lo hi : ℤ) (rs : List Range) (t : Bool) → hi <ℤ high → EndBefore high rs
    → EndBefore high (option_to_list (cond t (Some (record { lo = lo; hi = hi })) None) ++ rs)
gap_end high lo hi rs true l h = (l, h)
gap_end high lo hi rs false l h = h

gap_few : (r : Range) (rs : List Range) (t : Bool) → length (option_to_list (cond t (Some r) None) ++ rs) ≤ length rs + 1
gap_few r rs true = omega arith
gap_few r rs false = omega arith

gap_has : (lo hi q : ℤ) (rs : List Range) (t : Bool) → int_le lo hi ≡ t
    → in_ranges q (option_to_list (cond t (Some (record { lo = lo; hi = hi })) None) ++ rs) ≡ (in_range q (record { lo = lo; hi = hi }) || in_ranges q rs)
gap_has lo hi q rs true e = refl
gap_has lo hi q rs false e =
    let r : Range = record { lo = lo; hi = hi } in
    elim (apart_cases lo hi q e) [ inl l ↦ ap (λ z. z || in_ranges q rs) (sym (below q r l)) | inr l ↦ ap (λ z. z || in_ranges q rs) (sym (behind q r l)) ]

-- ---- what is left out

-- the last gap, as one before no others
pub left_nil : (before after : ℤ) → left_out before after [] ≡ option_to_list (from_to (before +ℤ pos 1) (after -ℤ pos 1)) ++ []
unfolding left_out
left_nil before after = nil_cases (from_to (before +ℤ pos 1) (after -ℤ pos 1))

left_ascend : (before after : ℤ) (rs : List Range) → Ascend (before +ℤ pos 1) rs → Ascend (before +ℤ pos 1) (left_out before after rs)
unfolding left_out
left_ascend before after [] h =
    subst (Ascend (before +ℤ pos 1)) (sym (left_nil before after))
    (gap_ascend (before +ℤ pos 1) (before +ℤ pos 1) (after -ℤ pos 1) [] (int_le (before +ℤ pos 1) (after -ℤ pos 1)) refl (omega (arith, ints)) tt tt)
left_ascend before after (r ∷ rs) h =
    let first : (before +ℤ pos 1) ≤ℤ r.lo = h.0 in
    let second : r.lo ≤ℤ r.hi = h.1 in
    let rest : Ascend (r.hi +ℤ pos 1) (left_out r.hi after rs) =
    left_ascend r.hi after rs (lower (r.hi +ℤ pos 1) (r.hi +ℤ pos 2) rs (omega (arith, ints)) h.2) in
    gap_ascend (before +ℤ pos 1) (before +ℤ pos 1) (r.lo -ℤ pos 1) (left_out r.hi after rs) (int_le (before +ℤ pos 1) (r.lo -ℤ pos 1)) refl
    (omega (arith, ints))
    (lower ((r.lo -ℤ pos 1) +ℤ pos 2) (r.hi +ℤ pos 1) (left_out r.hi after rs) (omega (arith, ints)) rest)
    (lower (before +ℤ pos 1) (r.hi +ℤ pos 1) (left_out r.hi after rs) (omega (arith, ints)) rest)

left_end : (low before after : ℤ) (rs : List Range) → Ascend low rs → EndBefore after rs → EndBefore after (left_out before after rs)
unfolding left_out
left_end low before after [] h e =
    subst (EndBefore after) (sym (left_nil before after))
    (gap_end after (before +ℤ pos 1) (after -ℤ pos 1) [] (int_le (before +ℤ pos 1) (after -ℤ pos 1)) (omega (arith, ints)) tt)
left_end low before after (r ∷ rs) h e =
    let second : r.lo ≤ℤ r.hi = h.1 in
    let third : r.hi <ℤ after = e.0 in
    gap_end after (before +ℤ pos 1) (r.lo -ℤ pos 1) (left_out r.hi after rs) (int_le (before +ℤ pos 1) (r.lo -ℤ pos 1)) (omega (arith, ints))
    (left_end (r.hi +ℤ pos 2) r.hi after rs h.2 e.1)

left_few : (before after : ℤ) (rs : List Range) → length (left_out before after rs) ≤ length rs + 1
unfolding left_out
left_few before after [] =
    let one = gap_few (record { lo = before +ℤ pos 1; hi = after -ℤ pos 1 }) [] (int_le (before +ℤ pos 1) (after -ℤ pos 1)) in
    rw (left_nil before after) one
left_few before after (r ∷ rs) =
    let one = gap_few (record { lo = before +ℤ pos 1; hi = r.lo -ℤ pos 1 }) (left_out r.hi after rs) (int_le (before +ℤ pos 1) (r.lo -ℤ pos 1)) in
    let rest = left_few r.hi after rs in
    omega (arith, one, rest)

left_has : (before after q : ℤ) (rs : List Range) → before <ℤ q → q <ℤ after → Ascend (before +ℤ pos 1) rs
    → in_ranges q (left_out before after rs) ≡ not (in_ranges q rs)
unfolding left_out
left_has before after q [] a b h =
    ap (in_ranges q) (left_nil before after)
    ∙ (gap_has (before +ℤ pos 1) (after -ℤ pos 1) q [] (int_le (before +ℤ pos 1) (after -ℤ pos 1)) refl
    ∙ ap (λ z. z || false) (inside q (record { lo = before +ℤ pos 1; hi = after -ℤ pos 1 }) (omega (arith, ints)) (omega (arith, ints))))
left_has before after q (r ∷ rs) a b h =
    let first : (before +ℤ pos 1) ≤ℤ r.lo = h.0 in
    let second : r.lo ≤ℤ r.hi = h.1 in
    let gap : Range = record { lo = before +ℤ pos 1; hi = r.lo -ℤ pos 1 } in
    let behind_it : Ascend (r.hi +ℤ pos 1) rs = lower (r.hi +ℤ pos 1) (r.hi +ℤ pos 2) rs (omega (arith, ints)) h.2 in
    let rest : Ascend (r.hi +ℤ pos 1) (left_out r.hi after rs) = left_ascend r.hi after rs behind_it in
    gap_has (before +ℤ pos 1) (r.lo -ℤ pos 1) q (left_out r.hi after rs) (int_le (before +ℤ pos 1) (r.lo -ℤ pos 1)) refl
    ∙ elim (places q r.lo r.hi) [
      | inl l ↦
          ap (λ z. z || in_ranges q (left_out r.hi after rs)) (inside q gap (omega (arith, ints)) (omega (arith, ints)))
          ∙ sym (ap not (below_none r.lo q (r ∷ rs) l (omega (arith, ints), second, h.2)))
      | inr other ↦ elim other [
        | inl l ↦
            let low : r.lo ≤ℤ q = l.0 in
            let high : q ≤ℤ r.hi = l.1 in
            ap (λ z. z || in_ranges q (left_out r.hi after rs)) (behind q gap (omega (arith, ints)))
            ∙ (below_none (r.hi +ℤ pos 1) q (left_out r.hi after rs) (omega (arith, ints)) rest
            ∙ sym (ap (λ z. not (z || in_ranges q rs)) (inside q r low high)))
        | inr l ↦
            ap (λ z. z || in_ranges q (left_out r.hi after rs)) (behind q gap (omega (arith, ints)))
            ∙ (left_has r.hi after q rs l b behind_it
            ∙ sym (ap (λ z. not (z || in_ranges q rs)) (behind q r l)))
      ]
    ]

-- ---- sets

module _ (alphabet : Alphabet) (folds : Bool) (ss : List Span) where
  abbrev named : List Range
  named = put_spans alphabet folds ss []

  named_ascend : Ascend (least_key alphabet) named
  named_ascend = lower (least_key alphabet) (byte_least alphabet) named (ends_fit alphabet).0 (named_gathered alphabet folds ss).ascend

  named_end : EndBefore (greatest_key alphabet +ℤ pos 1) named
  named_end = higher (greatest_key alphabet +ℤ pos 1) (byte_end alphabet) named (ends_fit alphabet).1 (named_gathered alphabet folds ss).ends

  -- at most one range for two bytes
  named_few : length named ≤ 128
  named_few =
      let count =
      few (byte_least alphabet) (byte_end alphabet) named (omega (arith, ints)) (named_gathered alphabet folds ss).ascend (named_gathered alphabet folds ss).ends in
      omega (arith, ints, count)

  least_behind : (least_key alphabet -ℤ pos 1) +ℤ pos 1 ≡ least_key alphabet
  least_behind = omega (arith, ints)

  others_ascend : Ascend (least_key alphabet) (complement alphabet named)
  others_ascend =
      let P : ℤ → Type 0 = λ z. Ascend z (complement alphabet named) in
      subst P least_behind
      (left_ascend (least_key alphabet -ℤ pos 1) (greatest_key alphabet +ℤ pos 1) named
      (let Q : ℤ → Type 0 = λ z. Ascend z named in subst Q (sym least_behind) named_ascend))

  others_end : EndBefore (greatest_key alphabet +ℤ pos 1) (complement alphabet named)
  others_end = left_end (least_key alphabet) (least_key alphabet -ℤ pos 1) (greatest_key alphabet +ℤ pos 1) named named_ascend named_end

  form_cases : (t : Bool) → AreRanges alphabet (cond t (complement alphabet named) named)
  form_cases true =
      form_from alphabet (complement alphabet named) others_ascend others_end
      (omega (arith, named_few, left_few (least_key alphabet -ℤ pos 1) (greatest_key alphabet +ℤ pos 1) named))
  form_cases false = form_from alphabet named named_ascend named_end (omega (arith, named_few))

  -- no key outside the alphabet
  none_outside : (q : ℤ) (rs : List Range) → Ascend (least_key alphabet) rs → EndBefore (greatest_key alphabet +ℤ pos 1) rs → has_key alphabet q ≡ false
      → in_ranges q rs ≡ false
  none_outside q rs a e h = elim (outside q (record { lo = least_key alphabet; hi = greatest_key alphabet }) h) [
    | inl l ↦ below_none (least_key alphabet) q rs l a
    | inr l ↦ end_none (greatest_key alphabet +ℤ pos 1) q rs (omega (arith, ints)) e
  ]

  key_cases : (q : ℤ) (t b : Bool) → has_key alphabet q ≡ b
      → in_ranges q (cond t (complement alphabet named) named) ≡ (b && cond t (not (is_named alphabet folds ss q)) (is_named alphabet folds ss q))
  key_cases q true true e =
      let k = within q (record { lo = least_key alphabet; hi = greatest_key alphabet }) e in
      let low : least_key alphabet ≤ℤ q = k.0 in
      let high : q ≤ℤ greatest_key alphabet = k.1 in
      left_has (least_key alphabet -ℤ pos 1) (greatest_key alphabet +ℤ pos 1) q named (omega (arith, ints)) (omega (arith, ints))
      (let Q : ℤ → Type 0 = λ z. Ascend z named in subst Q (sym least_behind) named_ascend)
      ∙ ap not ((named_gathered alphabet folds ss).keys q)
  key_cases q false true e = (named_gathered alphabet folds ss).keys q
  key_cases q true false e = none_outside q (complement alphabet named) others_ascend others_end e
  key_cases q false false e = none_outside q named named_ascend named_end e

-- the ranges of a set have their form
pub set_form : (alphabet : Alphabet) (folds : Bool) (s : CharacterSet) → AreRanges alphabet (set_ranges alphabet folds s)
set_form alphabet folds s = form_cases alphabet folds s.spans s.is_negated

-- and exactly those keys of the alphabet that the set has
pub sets_have : (alphabet : Alphabet) (folds : Bool) (s : CharacterSet) (q : ℤ)
    → in_ranges q (set_ranges alphabet folds s) ≡ (has_key alphabet q && has alphabet folds s q)
sets_have alphabet folds s q = key_cases alphabet folds s.spans q s.is_negated (has_key alphabet q) refl
