-- What the arrays on cells say of uses, cells and entries, where they are right.
use Rattle.std.proofs.Common.{◌≡◌, ℕ, zero, suc, ◌+◌, ◌-◌, ◌^◌, ◌<◌, ◌≤◌, Bool, true, false, List, [], ◌∷◌, length, Option, Some, None, refl, sym, ap, ◌∙◌, inl, inr, arith, lit<}
use Rattle.std.specs.Prelude.{ℤ, pos, negsuc, ◌+ℤ◌, ◌≤ℤ◌, ◌<ℤ◌, ◌↔◌, IsSomeAnd, IfSome, slice_get, slice_index_or, count_ones, if◌then◌else◌}
use Rattle.std.proofs.lemmas.Bool.{cases_lt}
use Rattle.std.proofs.lemmas.Int.{ints}
use Rattle.std.proofs.lemmas.Option.{slice_get-get_or, IfSome_then}
use Rattle.rl_arrays.specs.declared.arrays.Arrays.{Arrays}
use Rattle.rl_arrays.specs.declared.arrays.ArrayName.TheVariants as the
use Rattle.rl_arrays.specs.Words.{natural, number_at, plus, sum_before, IfAt}
use Rattle.rl_arrays.specs.Sizes.{states, shares, uses_of, entries_of, used_cell, uses_end, cells_end, one_more, IsClosing, IsIn}
use Rattle.rl_arrays.specs.Rules.{LengthSays, UseSays, IsSum}
use Rattle.rl_arrays.specs.TableMachine.{cell_used}
use Rattle.rl_arrays.specs.Valid.{FirstWrong, Right, SoundBefore}
use Rattle.rl_arrays.proofs.Laws.{sum-more}
use Rattle.rl_tables.specs.Ends.{IsInside}
use Rattle.rl_tables.proofs.SumLaws.{AreWidths, total, known, rise, total_none, in_between}

-- what is said of an element that is there
said : (xs : List ℤ) (i : ℕ) (P : ℤ → Type 0) → i < length xs → IfAt xs i P → IsSomeAnd (slice_get xs i) P
said [] i P lt h = absurd (omega arith)
said (x ∷ xs) zero P lt h = h
said (x ∷ xs) (suc i) P lt h = said xs i P (omega arith) h

positive : (a : Arrays) (s : ℕ) (x : Option ℤ) → IsSomeAnd x (LengthSays a s) → IsSomeAnd x (λ n. pos 0 ≤ℤ n)
positive a s None h = h
positive a s (Some n) h = h.positive

plus_positive : (x y : Option ℤ) → IsSomeAnd x (λ n. pos 0 ≤ℤ n) → IsSomeAnd y (λ n. pos 0 ≤ℤ n) → IsSomeAnd (plus x y) (λ n. pos 0 ≤ℤ n)
plus_positive None y h k = h
plus_positive (Some m) None h k = k
plus_positive (Some m) (Some n) h k = omega (arith, ints, h, k)

states_known : (a : Arrays) → FirstWrong a the.SingleLengths None → FirstWrong a the.RangeLengths None → AreWidths (uses_of a) (states a)
states_known a singles ranges = record {
  each = λ s lt.
      let m = singles s (omega arith) in
      let n = ranges s (omega arith) in
      plus_positive (slice_get a.single_lengths s) (slice_get a.range_lengths s) (positive a s _ (said a.single_lengths s (LengthSays a s) m.there m.says)) (positive a s _ (said a.range_lengths s (LengthSays a s) n.there n.says));
}

entry_width : (a : Arrays) (c : ℕ) (x : ℤ) → slice_get a.cell_asks c ≡ Some x → IsSomeAnd (entries_of a c) (λ n. pos 0 ≤ℤ n)
entry_width a c x e = rw e (omega (arith, ints))

cells_known : (a : Arrays) → AreWidths (entries_of a) (length a.cell_asks)
cells_known a = record { each = λ c lt. entry_width a c _ (slice_get-get_or a.cell_asks c (pos 0) lt) }

-- the sum that an element is
summed : (xs : List ℤ) (width : ℕ → Option ℤ) (i : ℕ) (z : ℤ) → i < length xs → sum_before width i ≡ Some z → IfAt xs i (IsSum width i) → slice_get xs i ≡ Some z
summed xs width i z lt e h =
    let n = slice_index_or xs i (pos 0) in
    let there : slice_get xs i ≡ Some n = slice_get-get_or xs i (pos 0) lt in
    let k : IfSome (sum_before width i) (λ sum. n ≡ sum) = rw there at h in
    let same : n ≡ z = rw e at k in
    there ∙ ap (λ (x : ℤ). Some x) same

-- a non-negative number
counted : (z : ℤ) → pos 0 ≤ℤ z → z ≡ pos (natural z)
counted (pos n) h = refl
counted (negsuc n) h = absurd (omega (arith, ints, h))

one_more_is : (end : Option ℤ) (n has : ℕ) → end ≡ Some (pos n) → one_more end has ≡ n + 1
one_more_is end n has e = rw e refl

-- as many elements as are due
all_due : (has due : ℕ) → ((k : ℕ) → k < has → k < due) → ((k : ℕ) → k < due → k < has) → has ≡ due
all_due has due h k = elim (cases_lt has due) [
  | inl less ↦ absurd (omega (arith, k has less))
  | inr le ↦ elim (cases_lt due has) [ inl more ↦ absurd (omega (arith, h due more)) | inr ge ↦ omega arith ]
]

some_pos : (m n : ℕ) → Some (pos m) ≡ Some (pos n) → m ≡ n
some_pos m n e = ap natural same
  where
    same : pos m ≡ pos n
    same = cc

number-is : (xs : List ℤ) (i : ℕ) (x : ℤ) → slice_get xs i ≡ Some x → pos 0 ≤ℤ x → x ≡ pos (number_at xs i)
number-is xs i x e h = rw e (counted x h)

-- the sums before a thing are known, so the element that is one is a count
placed : (xs : List ℤ) (width : ℕ → Option ℤ) (n i : ℕ) → AreWidths width n → i ≤ n → i < length xs → IfAt xs i (IsSum width i) → sum_before width i ≡ Some (pos (number_at xs i))
placed xs width n i widths le lt says =
    let z = total width i in
    let sum : sum_before width i ≡ Some z = known width n widths i le in
    let there : slice_get xs i ≡ Some z = summed xs width i z lt sum says in
    let low = rise width n widths 0 i (omega arith) le in
    let nought = total_none width in
    sum ∙ ap (λ (x : ℤ). Some x) (number-is xs i z there (omega (arith, ints, low, nought)))

-- what the arrays before the targets say of places
pub record Places (a : Arrays) : Type 0 where
  pub uses : ℕ
  pub cells : ℕ
  pub uses_are : uses_end a ≡ Some (pos uses)
  pub cells_are : cells_end a ≡ Some (pos cells)
  pub asks : length a.cell_asks ≡ cells + 1
  pub use_len : (if shares a then length a.cell_uses else length a.cell_asks) ≡ uses + 1
  pub used : (p : ℕ) → p < uses → used_cell a p ≡ Some (pos (cell_used a p))
  pub within : (p : ℕ) → p < uses → cell_used a p < cells
  pub offsets : (s : ℕ) → s < states a → sum_before (uses_of a) s ≡ Some (pos (number_at a.cell_offsets s))
  pub most : (s to : ℕ) → s ≤ states a → sum_before (uses_of a) s ≡ Some (pos to) → to ≤ uses
  pub rises : (s from to : ℕ) → s < states a → sum_before (uses_of a) s ≡ Some (pos from) → sum_before (uses_of a) (s + 1) ≡ Some (pos to) → from ≤ to
  pub entries : (c : ℕ) → c < cells → sum_before (entries_of a) c ≡ Some (pos (number_at a.cell_entries c))

module _ (a : Arrays) (sound : SoundBefore a 9) where
  widths : AreWidths (uses_of a) (states a)
  widths =
      let singles : FirstWrong a the.SingleLengths None = sound 3 (lit< tt) in
      let ranges : FirstWrong a the.RangeLengths None = sound 4 (lit< tt) in
      states_known a singles ranges

  offsets_right : FirstWrong a the.CellOffsets None
  offsets_right = sound 5 (lit< tt)

  uses_right : FirstWrong a the.CellUses None
  uses_right = sound 6 (lit< tt)

  asks_right : FirstWrong a the.CellAsks None
  asks_right = sound 7 (lit< tt)

  entries_right : FirstWrong a the.CellEntries None
  entries_right = sound 8 (lit< tt)

  abbrev use_count : ℕ
  use_count = natural (total (uses_of a) (states a))

  uses_are : uses_end a ≡ Some (pos use_count)
  uses_are =
      let low = rise (uses_of a) (states a) widths 0 (states a) (omega arith) (omega arith) in
      let nought = total_none (uses_of a) in
      known (uses_of a) (states a) widths (states a) (omega arith) ∙ ap (λ (x : ℤ). Some x) (counted (total (uses_of a) (states a)) (omega (arith, ints, low, nought)))

  asks_due : length a.cell_asks ≡ one_more (cells_end a) (length a.cell_asks)
  asks_due = all_due (length a.cell_asks) (one_more (cells_end a) (length a.cell_asks)) (λ k lt. (asks_right k (omega arith)).due) (λ k lt. (asks_right k (omega arith)).there)

  abbrev uses_due : ℕ
  uses_due = if shares a then one_more (uses_end a) (length a.cell_uses) else 0

  uses_len : length a.cell_uses ≡ uses_due
  uses_len = all_due (length a.cell_uses) uses_due (λ k lt. (uses_right k (omega arith)).due) (λ k lt. (uses_right k (omega arith)).there)

  record Shared : Type 0 where
    cells : ℕ
    cells_are : cells_end a ≡ Some (pos cells)
    asks : length a.cell_asks ≡ cells + 1
    use_len : (if shares a then length a.cell_uses else length a.cell_asks) ≡ use_count + 1
    used : (p : ℕ) → p < use_count → used_cell a p ≡ Some (pos (cell_used a p))
    within : (p : ℕ) → p < use_count → cell_used a p < cells

  -- each use has a cell of its own
  own_cells : shares a ≡ false → Shared
  own_cells e =
      let same : cells_end a ≡ Some (pos use_count) = rw e uses_are in
      let len : length a.cell_asks ≡ use_count + 1 = asks_due ∙ one_more_is (cells_end a) use_count (length a.cell_asks) same in
      record {
        cells = use_count;
        cells_are = same;
        asks = len;
        use_len = rw e len;
        used = λ p lt. rw e refl;
        within = λ p lt. rw e lt;
      }

  -- uses name their cells
  shared_cells : shares a ≡ true → Shared
  shared_cells e =
      let few = length a.cell_asks - 1 in
      let same : cells_end a ≡ Some (pos few) = rw e refl in
      let due : length a.cell_uses ≡ one_more (uses_end a) (length a.cell_uses) = rw e at uses_len in
      let len : length a.cell_uses ≡ use_count + 1 = due ∙ one_more_is (uses_end a) use_count (length a.cell_uses) uses_are in
      record {
        cells = few;
        cells_are = same;
        asks = asks_due ∙ one_more_is (cells_end a) few (length a.cell_asks) same;
        use_len = rw e len;
        used = λ p lt. (let h = use_of p lt (omega (arith, len)) in let is : slice_get a.cell_uses p ≡ Some (pos (number_at a.cell_uses p)) = h.0 in rw e is);
        within = λ p lt. (let h = use_of p lt (omega (arith, len)) in let less : number_at a.cell_uses p < length a.cell_asks - 1 = h.1 in rw e less);
      }
    where
      use_of : (p : ℕ) → p < use_count → p < length a.cell_uses → (slice_get a.cell_uses p ≡ Some (pos (number_at a.cell_uses p))) × (number_at a.cell_uses p < length a.cell_asks - 1)
      use_of p lt here =
          let x = slice_index_or a.cell_uses p (pos 0) in
          let there : slice_get a.cell_uses p ≡ Some x = slice_get-get_or a.cell_uses p (pos 0) here in
          let r : Right a the.CellUses p = uses_right p (omega arith) in
          let says : IfAt a.cell_uses p (UseSays a p) = r.says in
          let said : UseSays a p x = rw there at says in
          let not_closing : IsClosing (uses_end a) p → ⊥ = λ at'. (let same = some_pos use_count p (sym uses_are ∙ at') in omega arith) in
          let number : x ≡ pos (number_at a.cell_uses p) = number-is a.cell_uses p x there said.positive in
          let few : x <ℤ pos (length a.cell_asks - 1) = said.known not_closing in
          (there ∙ ap (λ (z : ℤ). Some z) number, omega (arith, ints, number, few))

  shared_by : (b : Bool) → shares a ≡ b → Shared
  shared_by false e = own_cells e
  shared_by true e = shared_cells e

  entry_sum : (S : Shared) (c : ℕ) → c < S.cells → sum_before (entries_of a) c ≡ Some (pos (number_at a.cell_entries c))
  entry_sum S c lt =
      let len = S.asks in
      let r : Right a the.CellEntries c = entries_right c (omega (arith, len)) in
      let not_closing : IsClosing (cells_end a) c → ⊥ = λ at'. (let same = some_pos S.cells c (sym S.cells_are ∙ at') in omega arith) in
      let sum : IfAt a.cell_entries c (IsSum (entries_of a) c) = IfSome_then (slice_get a.cell_entries c) r.says (λ x p. p.sum not_closing) in
      placed a.cell_entries (entries_of a) (length a.cell_asks) c (cells_known a) (omega (arith, len)) r.there sum

  offset_sum : (s : ℕ) → s < states a → sum_before (uses_of a) s ≡ Some (pos (number_at a.cell_offsets s))
  offset_sum s lt = let r = offsets_right s (omega arith) in placed a.cell_offsets (uses_of a) (states a) s widths (omega arith) r.there r.says

  sum_rises : (s t from to : ℕ) → s ≤ t → t ≤ states a → sum_before (uses_of a) s ≡ Some (pos from) → sum_before (uses_of a) t ≡ Some (pos to) → from ≤ to
  sum_rises s t from to le few e f =
      let r : total (uses_of a) s ≤ℤ total (uses_of a) t = rise (uses_of a) (states a) widths s t le few in
      let low : total (uses_of a) s ≡ pos from = rw e refl in
      let high : total (uses_of a) t ≡ pos to = rw f refl in
      omega (arith, ints, r, low, high)

  pub places_of : Places a
  places_of = let S = shared_by (shares a) refl in record {
    uses = use_count;
    cells = S.cells;
    uses_are = uses_are;
    cells_are = S.cells_are;
    asks = S.asks;
    use_len = S.use_len;
    used = S.used;
    within = S.within;
    offsets = λ s lt. offset_sum s lt;
    most = λ s to le e. sum_rises s (states a) to use_count le (omega arith) e uses_are;
    rises = λ s from to lt e f. sum_rises s (s + 1) from to (omega arith) (omega arith) e f;
    entries = λ c lt. entry_sum S c lt;
  }

pub inside_uses : (a : Arrays) (P : Places a) (p : ℕ) → IsInside (uses_end a) p ↔ (p < P.uses)
inside_uses a P p = (
  λ h. (let low : pos p <ℤ pos P.uses = rw P.uses_are at h in omega (arith, ints, low)),
  λ lt. (let low : pos p <ℤ pos P.uses = omega (arith, ints) in rw P.uses_are low),
)

pub inside_cells : (a : Arrays) (P : Places a) (c : ℕ) → IsInside (cells_end a) c ↔ (c < P.cells)
inside_cells a P c = (
  λ h. (let low : pos c <ℤ pos P.cells = rw P.cells_are at h in omega (arith, ints, low)),
  λ lt. (let low : pos c <ℤ pos P.cells = omega (arith, ints) in rw P.cells_are low),
)

pub used_exists : (a : Arrays) (P : Places a) (p c : ℕ) → p < P.uses → used_cell a p ≡ Some (pos c) → c < P.cells
used_exists a P p c lt e =
    let same : cell_used a p ≡ c = some_pos (cell_used a p) c (sym (P.used p lt) ∙ e) in
    let less = P.within p lt in
    omega (arith, same, less)

-- where the entries of a cell begin and end
pub cell_entries : (a : Arrays) (P : Places a) (c e : ℕ) → c < P.cells
    → IsIn (entries_of a) c e ↔ ((pos (number_at a.cell_entries c) ≤ℤ pos e) × (pos e <ℤ (pos (number_at a.cell_entries c) +ℤ pos (2 ^ count_ones (number_at a.cell_asks c)))))
cell_entries a P c e lt =
    let first = number_at a.cell_entries c in
    let x = slice_index_or a.cell_asks c (pos 0) in
    let there : slice_get a.cell_asks c ≡ Some x = slice_get-get_or a.cell_asks c (pos 0) (omega (arith, P.asks)) in
    let asks : number_at a.cell_asks c ≡ natural x = rw there refl in
    let width : entries_of a c ≡ Some (pos (2 ^ count_ones (number_at a.cell_asks c))) = rw (asks, there) refl in
    let sum : sum_before (entries_of a) c ≡ Some (pos first) = P.entries c lt in
    let next : sum_before (entries_of a) (c + 1) ≡ Some (pos first +ℤ pos (2 ^ count_ones (number_at a.cell_asks c))) = rw (sum-more (entries_of a) c, sum, width) refl in
    in_between (entries_of a) c e (pos first) (pos first +ℤ pos (2 ^ count_ones (number_at a.cell_asks c))) sum next

pub state_uses : (a : Arrays) (s from to : ℕ) → sum_before (uses_of a) s ≡ Some (pos from) → sum_before (uses_of a) (s + 1) ≡ Some (pos to)
    → (place : ℕ) → IsIn (uses_of a) s place ↔ ((from ≤ place) × (place < to))
state_uses a s from to e f place =
    let b = in_between (uses_of a) s place (pos from) (pos to) e f in (
      λ k. (let h = b.0 k in (omega (arith, ints, h), omega (arith, ints, h))),
      λ h. b.1 (omega (arith, ints, h), omega (arith, ints, h)),
    )

pub shared_len : (a : Arrays) (P : Places a) → shares a ≡ true → length a.cell_uses ≡ P.uses + 1
shared_len a P e = rw e at P.use_len

pub own_len : (a : Arrays) (P : Places a) → shares a ≡ false → length a.cell_asks ≡ P.uses + 1
own_len a P e = rw e at P.use_len

-- a place is among the entries of a cell that an array with so many elements has
pub clipped_entries : (a : Arrays) (P : Places a) (c has from to : ℕ) (first next : ℤ) → c < P.cells
    → ((k : ℕ) → k < from → pos k <ℤ first) → ((k : ℕ) → from ≤ k → k < has → first ≤ℤ pos k)
    → ((k : ℕ) → k < to → pos k <ℤ next) → ((k : ℕ) → to ≤ k → k < has → next ≤ℤ pos k)
    → first ≡ pos (number_at a.cell_entries c) → next ≡ pos (number_at a.cell_entries c) +ℤ pos (2 ^ count_ones (number_at a.cell_asks c))
    → (e : ℕ) → e < has → IsIn (entries_of a) c e ↔ ((from ≤ e) × (e < to))
clipped_entries a P c has from to first next lt below above below' above' f n e le =
    let k = cell_entries a P c e lt in (
      λ m. (
          let h = k.0 m in
          let low : from ≤ e = elim (cases_lt e from) [ inl less ↦ (let b = below e less in absurd (omega (arith, ints, h, f, b))) | inr ge ↦ ge ] in
          let high : e < to = elim (cases_lt e to) [ inl less ↦ less | inr ge ↦ (let b = above' e ge le in absurd (omega (arith, ints, h, n, b))) ] in
          (low, high)
          ),
      λ r. (let b = above e r.0 le in let b' = below' e r.1 in k.1 (omega (arith, ints, f, b), omega (arith, ints, n, b'))),
    )

pub pos-less : (m n : ℕ) → m < n → pos m <ℤ pos n
pos-less m n lt = omega (arith, ints)
