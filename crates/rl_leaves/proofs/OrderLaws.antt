-- Ranges ascend, end before a key, and have no keys elsewhere.
use Rattle.std.proofs.Common.{◌≡◌, ◌+◌, ◌*◌, ◌≤◌, false, ◌||◌, ℤ, pos, ◌+ℤ◌, ◌≤ℤ◌}
use Rattle.std.proofs.Common.{◌<ℤ◌, List, [], ◌∷◌, length, refl, ap, ◌∙◌, arith}
use Rattle.std.proofs.lemmas.Int.{ints}
use Rattle.rl_types.specs.KeyRange.{Range, in_range}
use Rattle.rl_leaves.specs.Ranges.{in_ranges}
use Rattle.rl_leaves.specs.Forms.{Ascend}
use Rattle.rl_leaves.proofs.KeyTests.{below, behind}

-- the ranges end before a key
abbrev pub EndBefore : ℤ → List Range → Type 0
EndBefore high [] = Unit {0}
EndBefore high (r ∷ rs) = (r.hi <ℤ high) × EndBefore high rs

pub lower : (low key : ℤ) (rs : List Range) → low ≤ℤ key → Ascend key rs → Ascend low rs
lower low key [] l h = tt
lower low key (r ∷ rs) l h =
    let first : key ≤ℤ r.lo = h.0 in
    (omega (arith, ints), h.1, h.2)

pub higher : (high key : ℤ) (rs : List Range) → key ≤ℤ high → EndBefore key rs → EndBefore high rs
higher high key [] l h = tt
higher high key (r ∷ rs) l h =
    let first : r.hi <ℤ key = h.0 in
    (omega (arith, ints), higher high key rs l h.1)

-- no key below or above them
pub below_none : (low q : ℤ) (rs : List Range) → q <ℤ low → Ascend low rs → in_ranges q rs ≡ false
below_none low q [] l h = refl
below_none low q (r ∷ rs) l h =
    let first : low ≤ℤ r.lo = h.0 in
    let second : r.lo ≤ℤ r.hi = h.1 in
    let no : in_range q r ≡ false = below q r (omega (arith, ints)) in
    ap (λ z. z || in_ranges q rs) no ∙ below_none (r.hi +ℤ pos 2) q rs (omega (arith, ints)) h.2

pub end_none : (high q : ℤ) (rs : List Range) → high ≤ℤ q → EndBefore high rs → in_ranges q rs ≡ false
end_none high q [] l h = refl
end_none high q (r ∷ rs) l h =
    let first : r.hi <ℤ high = h.0 in
    let no : in_range q r ≡ false = behind q r (omega (arith, ints)) in
    ap (λ z. z || in_ranges q rs) no ∙ end_none high q rs l h.1

-- each of them takes two keys at least, but for the last one
pub few : (low high : ℤ) (rs : List Range) → low ≤ℤ (high +ℤ pos 1) → Ascend low rs → EndBefore high rs
    → (low +ℤ pos (2 * length rs)) ≤ℤ (high +ℤ pos 1)
few low high [] l a e = omega (arith, ints)
few low high (r ∷ rs) l a e =
    let first : low ≤ℤ r.lo = a.0 in
    let second : r.lo ≤ℤ r.hi = a.1 in
    let third : r.hi <ℤ high = e.0 in
    let rest : ((r.hi +ℤ pos 2) +ℤ pos (2 * length rs)) ≤ℤ (high +ℤ pos 1) = few (r.hi +ℤ pos 2) high rs (omega (arith, ints)) a.2 e.1 in
    let count : 2 * length (r ∷ rs) ≡ 2 * length rs + 2 = omega arith in
    rw count (omega (arith, ints))
