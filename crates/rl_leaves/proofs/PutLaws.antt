-- Ranges put among others: they ascend, and have the keys of both.
use Rattle.std.proofs.Common.{◌≡◌, ℕ, ◌+◌, ◌<◌, ◌≤◌, Bool, true, false, cond, ◌||◌, ℤ, pos, ◌+ℤ◌, ◌-ℤ◌, ◌≤ℤ◌, ◌<ℤ◌}
use Rattle.std.proofs.Common.{List, [], ◌∷◌, ◌++◌, length, drop, get_or, refl, sym, ap, ◌∙◌, inl, inr, arith, append_assoc}
use Rattle.std.specs.Prelude.{Option, Some, None, option_to_list}
use Rattle.std.specs.Int.{int_min, int_max}
use Rattle.std.proofs.lemmas.Int.{ints, clamps}
use Rattle.std.proofs.lemmas.List.{drop_more, drop_all}
use Rattle.rl_types.specs.declared.alphabet.Alphabet.{Alphabet}
use Rattle.rl_types.specs.KeyRange.{Range, in_range}
use Rattle.rl_leaves.specs.declared.character_set.Span.{Span}
use Rattle.rl_leaves.specs.Ranges.{in_ranges, is_before, joined, put, put_some, emitted, held_behind, from_to, put_span, put_spans, left_out}
use Rattle.rl_leaves.specs.Forms.{Ascend}
use Rattle.rl_leaves.proofs.KeyTests.{lt_from, not_lt, inside, within, below, behind, outside}
use Rattle.rl_leaves.proofs.OrderLaws.{EndBefore, lower}

-- ---- the loop that puts a range

emit_cases : (r s : Range) (ss : List Range) (a b : Bool)
    → cond a (s ∷ put r ss) (cond b (r ∷ s ∷ ss) (put (joined r s) ss))
    ≡ cond a (s ∷ []) (cond b (r ∷ s ∷ []) []) ++ put_some (cond a (Some r) (cond b None (Some (joined r s)))) ss
emit_cases r s ss true b = refl
emit_cases r s ss false true = refl
emit_cases r s ss false false = refl

pub emits : (held : Option Range) (s : Range) (ss : List Range) → put_some held (s ∷ ss) ≡ emitted held s ++ put_some (held_behind held s) ss
unfolding put
emits None s ss = refl
emits (Some r) s ss = emit_cases r s ss (is_before s r) (is_before r s)

pub closes : (held : Option Range) → put_some held [] ≡ option_to_list held
unfolding put
closes None = refl
closes (Some r) = refl

-- the element at a place, and those behind it
pub taken : {X : Type 0} (xs : List X) (i : ℕ) (x : X) → i < length xs → x ≡ get_or xs i x → drop i xs ≡ x ∷ drop (i + 1) xs
taken xs i x l e = drop_more xs i x l ∙ ap (λ z. z ∷ drop (i + 1) xs) (sym e)

pub put_turn : (whole found found' : List Range) (held held' : Option Range) (rs : List Range) (i : ℕ) (x : Range) → i < length rs → x ≡ get_or rs i x
    → held' ≡ held_behind held x → found' ≡ found ++ emitted held x → found ++ put_some held (drop i rs) ≡ whole
    → found' ++ put_some held' (drop (i + 1) rs) ≡ whole
put_turn whole found found' held held' rs i x l e h f inv =
    rw (h, f)
    (append_assoc found (emitted held x) (put_some (held_behind held x) (drop (i + 1) rs))
    ∙ (ap (λ z. found ++ z) (sym (emits held x (drop (i + 1) rs)))
    ∙ (ap (λ z. found ++ put_some held z) (sym (taken rs i x l e)) ∙ inv)))

pub put_ends : (whole found found' : List Range) (held : Option Range) (rs : List Range) (i : ℕ) → length rs ≤ i → found' ≡ found ++ option_to_list held
    → found ++ put_some held (drop i rs) ≡ whole → found' ≡ whole
put_ends whole found found' held rs i l f inv =
    f ∙ (ap (λ z. found ++ z) (sym (closes held)) ∙ (ap (λ z. found ++ put_some held z) (sym (drop_all i rs l)) ∙ inv))

-- ---- the loop that puts spans

pub spans_turn : (alphabet : Alphabet) (folds : Bool) (whole rs rs' : List Range) (ss : List Span) (i : ℕ) (d : Span) → i < length ss
    → rs' ≡ put_span alphabet folds (get_or ss i d) rs → put_spans alphabet folds (drop i ss) rs ≡ whole
    → put_spans alphabet folds (drop (i + 1) ss) rs' ≡ whole
unfolding put_spans
spans_turn alphabet folds whole rs rs' ss i d l e inv =
    rw e (ap (λ z. put_spans alphabet folds z rs) (sym (drop_more ss i d l)) ∙ inv)

pub spans_end : (alphabet : Alphabet) (folds : Bool) (whole rs : List Range) (ss : List Span) (i : ℕ) → length ss ≤ i
    → put_spans alphabet folds (drop i ss) rs ≡ whole → rs ≡ whole
unfolding put_spans
spans_end alphabet folds whole rs ss i l inv = ap (λ z. put_spans alphabet folds z rs) (sym (drop_all i ss l)) ∙ inv

-- ---- the loop that takes what is left out

pub gap_turn : (whole found found' : List Range) (last last' after : ℤ) (rs : List Range) (i : ℕ) (x : Range) (gap : Option Range) → i < length rs
    → x ≡ get_or rs i x → last' ≡ x.hi → gap ≡ from_to (last +ℤ pos 1) (x.lo -ℤ pos 1) → found' ≡ found ++ option_to_list gap
    → found ++ left_out last after (drop i rs) ≡ whole → found' ++ left_out last' after (drop (i + 1) rs) ≡ whole
unfolding left_out
gap_turn whole found found' last last' after rs i x gap l e h g f inv =
    rw (h, f, g)
    (append_assoc found (option_to_list (from_to (last +ℤ pos 1) (x.lo -ℤ pos 1))) (left_out x.hi after (drop (i + 1) rs))
    ∙ (ap (λ z. found ++ left_out last after z) (sym (taken rs i x l e)) ∙ inv))

pub gap_ends : (whole found found' : List Range) (last after : ℤ) (rs : List Range) (i : ℕ) (gap : Option Range) → length rs ≤ i
    → gap ≡ from_to (last +ℤ pos 1) (after -ℤ pos 1) → found' ≡ found ++ option_to_list gap → found ++ left_out last after (drop i rs) ≡ whole → found' ≡ whole
unfolding left_out
gap_ends whole found found' last after rs i gap l g f inv =
    f ∙ (ap (λ z. found ++ option_to_list z) g ∙ (ap (λ z. found ++ left_out last after z) (sym (drop_all i rs l)) ∙ inv))

-- ---- order

ascend_cases : (low : ℤ) (r s : Range) (ss : List Range) (a b : Bool) → is_before s r ≡ a → is_before r s ≡ b
    → low ≤ℤ r.lo → r.lo ≤ℤ r.hi → Ascend low (s ∷ ss)
    → ((key : ℤ) (x : Range) → key ≤ℤ x.lo → x.lo ≤ℤ x.hi → Ascend key ss → Ascend key (put x ss))
    → Ascend low (cond a (s ∷ put r ss) (cond b (r ∷ s ∷ ss) (put (joined r s) ss)))
ascend_cases low r s ss true b e f l o h later =
    let apart : (s.hi +ℤ pos 1) <ℤ r.lo = lt_from (s.hi +ℤ pos 1) r.lo e in
    (h.0, h.1, later (s.hi +ℤ pos 2) r (omega (arith, ints)) o h.2)
ascend_cases low r s ss false true e f l o h later =
    let apart : (r.hi +ℤ pos 1) <ℤ s.lo = lt_from (r.hi +ℤ pos 1) s.lo f in
    (l, o, (omega (arith, ints), h.1, h.2))
ascend_cases low r s ss false false e f l o h later =
    let first : low ≤ℤ s.lo = h.0 in
    let second : s.lo ≤ℤ s.hi = h.1 in
    later low (joined r s) (omega (arith, ints, clamps)) (omega (arith, ints, clamps)) (lower low (s.hi +ℤ pos 2) ss (omega (arith, ints)) h.2)

pub ascend_put : (low : ℤ) (r : Range) (rs : List Range) → low ≤ℤ r.lo → r.lo ≤ℤ r.hi → Ascend low rs → Ascend low (put r rs)
unfolding put
ascend_put low r [] l o h = (l, o, tt)
ascend_put low r (s ∷ ss) l o h =
    ascend_cases low r s ss (is_before s r) (is_before r s) refl refl l o h (λ key x. ascend_put key x ss)

end_cases : (high : ℤ) (r s : Range) (ss : List Range) (a b : Bool) → r.hi <ℤ high → EndBefore high (s ∷ ss)
    → ((x : Range) → x.hi <ℤ high → EndBefore high (put x ss)) → EndBefore high (cond a (s ∷ put r ss) (cond b (r ∷ s ∷ ss) (put (joined r s) ss)))
end_cases high r s ss true b l h later = (h.0, later r l)
end_cases high r s ss false true l h later = (l, h)
end_cases high r s ss false false l h later =
    let first : s.hi <ℤ high = h.0 in
    later (joined r s) (omega (arith, ints, clamps))

pub end_put : (high : ℤ) (r : Range) (rs : List Range) → r.hi <ℤ high → EndBefore high rs → EndBefore high (put r rs)
unfolding put
end_put high r [] l h = (l, tt)
end_put high r (s ∷ ss) l h = end_cases high r s ss (is_before s r) (is_before r s) l h (λ x g. end_put high x ss g h.1)

-- ---- keys

joined_cases : (q : ℤ) (r s : Range) (x y : Bool) → in_range q r ≡ x → in_range q s ≡ y → r.lo ≤ℤ (s.hi +ℤ pos 1) → s.lo ≤ℤ (r.hi +ℤ pos 1)
    → in_range q (joined r s) ≡ (x || y)
joined_cases q r s true y e f a b =
    let h = within q r e in
    let low : r.lo ≤ℤ q = h.0 in
    let high : q ≤ℤ r.hi = h.1 in
    inside q (joined r s) (omega (arith, ints, clamps)) (omega (arith, ints, clamps))
joined_cases q r s false true e f a b =
    let h = within q s f in
    let low : s.lo ≤ℤ q = h.0 in
    let high : q ≤ℤ s.hi = h.1 in
    inside q (joined r s) (omega (arith, ints, clamps)) (omega (arith, ints, clamps))
joined_cases q r s false false e f a b = elim (outside q r e) [
  | inl l ↦ elim (outside q s f) [
    | inl m ↦ below q (joined r s) (omega (arith, ints, clamps))
    | inr m ↦ absurd (omega (arith, ints))
  ]
  | inr l ↦ elim (outside q s f) [
    | inl m ↦ absurd (omega (arith, ints))
    | inr m ↦ behind q (joined r s) (omega (arith, ints, clamps))
  ]
]

behind_first : (x y z : Bool) → (y || (x || z)) ≡ (x || (y || z))
behind_first true true z = refl
behind_first true false z = refl
behind_first false true z = refl
behind_first false false z = refl

or_assoc : (x y z : Bool) → ((x || y) || z) ≡ (x || (y || z))
or_assoc true y z = refl
or_assoc false y z = refl

key_cases : (q : ℤ) (r s : Range) (ss : List Range) (a b : Bool) → is_before s r ≡ a → is_before r s ≡ b → r.lo ≤ℤ r.hi → s.lo ≤ℤ s.hi
    → ((x : Range) → x.lo ≤ℤ x.hi → in_ranges q (put x ss) ≡ (in_range q x || in_ranges q ss))
    → in_ranges q (cond a (s ∷ put r ss) (cond b (r ∷ s ∷ ss) (put (joined r s) ss))) ≡ (in_range q r || (in_range q s || in_ranges q ss))
key_cases q r s ss true b e f o p later =
    ap (λ z. in_range q s || z) (later r o) ∙ behind_first (in_range q r) (in_range q s) (in_ranges q ss)
key_cases q r s ss false true e f o p later = refl
key_cases q r s ss false false e f o p later =
    let left = not_lt (s.hi +ℤ pos 1) r.lo e in
    let right = not_lt (r.hi +ℤ pos 1) s.lo f in
    later (joined r s) (omega (arith, ints, clamps))
    ∙ (ap (λ z. z || in_ranges q ss) (joined_cases q r s (in_range q r) (in_range q s) refl refl left right)
    ∙ or_assoc (in_range q r) (in_range q s) (in_ranges q ss))

pub key_put : (low q : ℤ) (r : Range) (rs : List Range) → r.lo ≤ℤ r.hi → Ascend low rs → in_ranges q (put r rs) ≡ (in_range q r || in_ranges q rs)
unfolding put
key_put low q r [] o h = refl
key_put low q r (s ∷ ss) o h =
    key_cases q r s ss (is_before s r) (is_before r s) refl refl o h.1 (λ x p. key_put (s.hi +ℤ pos 2) q x ss p h.2)
