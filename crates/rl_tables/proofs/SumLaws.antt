-- Laws of sums: how they rise, and where there is none.
use Rattle.std.proofs.Common.{◌≡◌, ℕ, zero, suc, ◌+◌, ◌<◌, ◌≤◌, length, Option, Some, None, refl, sym, inl, inr, arith}
use Rattle.std.specs.Prelude.{ℤ, pos, negsuc, ◌≤ℤ◌, ◌<ℤ◌, ◌↔◌, IsSomeAnd, slice_get, unwrap_or}
use Rattle.std.proofs.lemmas.Bool.{cases_lt}
use Rattle.std.proofs.lemmas.Int.{ints}
use Rattle.std.proofs.lemmas.Option.{slice_get_past}
use Rattle.rl_arrays.specs.declared.arrays.Arrays.{Arrays}
use Rattle.rl_arrays.specs.Words.{natural, plus, sum_before}
use Rattle.rl_arrays.specs.Sizes.{entries_of, IsIn}
use Rattle.rl_arrays.proofs.Laws.{no_sum}

pub natural_low : (z : ℤ) → z ≤ℤ pos 0 → natural z ≡ 0
natural_low (pos n) h = omega (arith, ints)
natural_low (negsuc n) h = refl

pub natural_above : (z : ℤ) (n : ℕ) → pos n <ℤ z → n < natural z
natural_above (pos m) n h = omega (arith, ints, h)
natural_above (negsuc m) n h = absurd (omega (arith, ints, h))

plus_none : (x : Option ℤ) → plus x None ≡ None
plus_none None = refl
plus_none (Some z) = refl

-- behind the cells that are there no sum is known
pub entries_past : (a : Arrays) (n : ℕ) → length a.cell_asks < n → sum_before (entries_of a) n ≡ None
unfolding sum_before
entries_past a zero lt = absurd (omega arith)
entries_past a (suc i) lt = elim (cases_lt (length a.cell_asks) i) [
  | inl less ↦ rw (entries_past a i less) refl
  | inr le ↦ let none : entries_of a i ≡ None = rw (slice_get_past a.cell_asks i (omega arith)) refl in rw none (plus_none (sum_before (entries_of a) i))
]

-- the widths are known, and none is below 0
pub record AreWidths (width : ℕ → Option ℤ) (n : ℕ) : Type 0 where
  pub each : (k : ℕ) → k < n → IsSomeAnd (width k) (λ w. pos 0 ≤ℤ w)

-- the sum of the first so many widths, where it is known
abbrev pub total : (ℕ → Option ℤ) → ℕ → ℤ
total width i = unwrap_or (sum_before width i) (pos 0)

more : (x y : Option ℤ) → x ≡ Some (unwrap_or x (pos 0)) → IsSomeAnd y (λ w. pos 0 ≤ℤ w) → (plus x y ≡ Some (unwrap_or (plus x y) (pos 0))) × (unwrap_or x (pos 0) ≤ℤ unwrap_or (plus x y) (pos 0))
more None y e h = absurd cc
more (Some m) None e h = absurd h
more (Some m) (Some n) e h = (refl, omega (arith, ints, h))

pub known : (width : ℕ → Option ℤ) (n : ℕ) → AreWidths width n → (i : ℕ) → i ≤ n → sum_before width i ≡ Some (total width i)
unfolding sum_before
known width n h zero le = refl
known width n h (suc i) le = (more (sum_before width i) (width i) (known width n h i (omega arith)) (h.each i (omega arith))).0

next_rises : (width : ℕ → Option ℤ) (n : ℕ) → AreWidths width n → (i : ℕ) → i < n → total width i ≤ℤ total width (suc i)
unfolding sum_before
next_rises width n h i lt = (more (sum_before width i) (width i) (known width n h i (omega arith)) (h.each i lt)).1

pub rise : (width : ℕ → Option ℤ) (n : ℕ) → AreWidths width n → (i j : ℕ) → i ≤ j → j ≤ n → total width i ≤ℤ total width j
rise width n h i zero le in_n = let same : i ≡ 0 = omega arith in rw same (omega (arith, ints))
rise width n h i (suc j) le in_n = elim (cases_lt i (suc j)) [
  | inl less ↦ let before : total width i ≤ℤ total width j = rise width n h i j (omega arith) (omega arith) in let here : total width j ≤ℤ total width (suc j) = next_rises width n h j (omega arith) in omega (arith, ints)
  | inr ge ↦ let same : i ≡ suc j = omega arith in rw same (omega (arith, ints))
]

pub total_none : (width : ℕ → Option ℤ) → total width 0 ≡ pos 0
total_none width = rw (sym (no_sum width)) refl

-- the places of a thing, where the sums before it and behind it are known
pub in_between : (width : ℕ → Option ℤ) (i p : ℕ) (first next : ℤ) → sum_before width i ≡ Some first → sum_before width (i + 1) ≡ Some next
    → IsIn width i p ↔ ((first ≤ℤ pos p) × (pos p <ℤ next))
in_between width i p first next e f = (
  λ k. (let from : first ≤ℤ pos p = rw e at k.from in let to : pos p <ℤ next = rw f at k.to in (from, to)),
  λ h. record { from = rw e h.0; to = rw f h.1 },
)
