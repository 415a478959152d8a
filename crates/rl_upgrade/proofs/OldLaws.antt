-- Of arrays that are valid: the uses of cells, the cells, and their entries.
use Rattle.std.proofs.Common.{◌≡◌, ℕ, zero, suc, ◌+◌, ◌-◌, ◌*◌, ◌<◌, ◌≤◌, true, false, ℤ, pos, ◌≤ℤ◌, ◌<ℤ◌, List, [], ◌∷◌, length, map, take, drop, Option, Some, None, refl, sym, ap, ◌∙◌, subst, arith, inl, inr}
use Rattle.std.specs.Prelude.{slice_get, IfSome, IsSomeAnd, position}
use Rattle.std.specs.List.{zip}
use Rattle.std.specs.Option.{option_map, option_map_or, option_or}
use Rattle.std.specs.Ordering.{int_eq}
use Rattle.std.proofs.lemmas.Bool.{cases_lt}
use Rattle.std.proofs.lemmas.Int.{ints}
use Rattle.std.proofs.lemmas.List.{length-take, length-drop}
use Rattle.std.proofs.lemmas.List.Quantifiers.{position-Some}
use Rattle.std.proofs.lemmas.Option.{slice_get_past}
use Rattle.rl_arrays.specs.declared.arrays.Arrays.{Arrays}
use Rattle.rl_arrays.specs.declared.arrays.ArrayName.{ArrayName}
use Rattle.rl_arrays.specs.declared.arrays.ArrayName.TheVariants as the
use Rattle.rl_arrays.specs.declared.arrays.TheConstants.{ORDER}
use Rattle.rl_arrays.specs.Words.{natural, number_at, plus, sum_before}
use Rattle.rl_arrays.specs.Sizes.{states, shares, uses_end, uses_of, entries_of, entries_end, one_more, IsIn}
use Rattle.rl_arrays.specs.Rules.{LengthSays}
use Rattle.rl_arrays.specs.Valid.{FirstWrong, Valid, SoundBefore}
use Rattle.rl_arrays.specs.Shared.{cell_size, cell_at}
use Rattle.rl_arrays.specs.TableMachine.{single_keys, range_ends, range_of, cell_within}
use Rattle.rl_arrays.proofs.Laws.{sum-more}
use Rattle.rl_tables.proofs.Asked.{range-within}
use Rattle.rl_tables.proofs.Elements.{right, has-due, element, if_at, number-at, number_none, nonneg}
use Rattle.rl_tables.proofs.EntryLaws.{Places, places_of, shared_len, own_len}
use Rattle.rl_tables.proofs.Totals.{total, total-<, sum-pos}
use Rattle.rl_tables.proofs.Places.{map_some}

-- ---- parts of two lists side by side

taken_get : (ts ls : List ℤ) (n j : ℕ) → j < n → n ≤ length ts → n ≤ length ls
    → slice_get (zip (map natural (take n ts)) (map natural (take n ls))) j ≡ Some (number_at ts j, number_at ls j)
taken_get ts ls zero j h k l = absurd (omega arith)
taken_get [] ls (suc n) j h k l = absurd (omega arith)
taken_get (t ∷ ts) [] (suc n) j h k l = absurd (omega arith)
taken_get (t ∷ ts) (m ∷ ls) (suc n) zero h k l = refl
taken_get (t ∷ ts) (m ∷ ls) (suc n) (suc j) h k l = taken_get ts ls n j (omega arith) (omega arith) (omega arith)

taken_length : (ts ls : List ℤ) (n : ℕ) → n ≤ length ts → n ≤ length ls → length (zip (map natural (take n ts)) (map natural (take n ls))) ≡ n
taken_length ts ls zero k l = refl
taken_length [] ls (suc n) k l = absurd (omega arith)
taken_length (t ∷ ts) [] (suc n) k l = absurd (omega arith)
taken_length (t ∷ ts) (m ∷ ls) (suc n) k l = ap suc (taken_length ts ls n (omega arith) (omega arith))

number_behind : (ts : List ℤ) (f j k : ℕ) → k ≡ f + j → number_at (drop f ts) j ≡ number_at ts k
number_behind [] zero j k e = refl
number_behind [] (suc f) j k e = refl
number_behind (t ∷ ts) zero j k e = let same : j ≡ k = omega arith in ap (number_at (t ∷ ts)) same
number_behind (t ∷ ts) (suc f) j k e = let same : suc (f + j) ≡ k = omega arith in number_behind ts f j (f + j) refl ∙ ap (number_at (t ∷ ts)) same

pub some_pos : (m n : ℕ) → Some (pos m) ≡ Some (pos n) → m ≡ n
some_pos m n e = ap natural same
  where
    same : pos m ≡ pos n
    same = cc

one_more_is : (end : Option ℤ) (n has : ℕ) → end ≡ Some (pos n) → one_more end has ≡ n + 1
one_more_is end n has e = rw e refl

module _ (a : Arrays) (valid : Valid a) where
  sound : SoundBefore a 9
  sound k lt = by (slice_get ORDER k)
    where
      by : (o : Option ArrayName) → IfSome o (λ array. FirstWrong a array None)
      by None = tt
      by (Some array) = valid.each array

  pub places : Places a
  places = places_of a sound

  -- ---- the uses of a state

  length_at : (xs : List ℤ) (s : ℕ) → s < length xs → ((x : ℤ) → slice_get xs s ≡ Some x → pos 0 ≤ℤ x) → slice_get xs s ≡ Some (pos (number_at xs s))
  length_at xs s h p =
      let x = element xs s h in
      let e = nonneg x.0 (p x.0 x.1) in
      let n = number-at xs s x.0 x.1 in
      x.1 ∙ ap Some e ∙ ap (λ k. Some (pos k)) (sym n)

  singles_at : (s : ℕ) → s < states a → slice_get a.single_lengths s ≡ Some (pos (number_at a.single_lengths s))
  singles_at s h =
      let r = right a valid the.SingleLengths s h in
      length_at a.single_lengths s r.there (λ x e. (if_at a.single_lengths s x (LengthSays a s) e r.says).positive)

  ranges_at : (s : ℕ) → s < states a → slice_get a.range_lengths s ≡ Some (pos (number_at a.range_lengths s))
  ranges_at s h =
      let r = right a valid the.RangeLengths s h in
      length_at a.range_lengths s r.there (λ x e. (if_at a.range_lengths s x (LengthSays a s) e r.says).positive)

  abbrev uses : ℕ → ℕ
  uses s = number_at a.single_lengths s + number_at a.range_lengths s

  uses_are : (s : ℕ) → s < states a → uses_of a s ≡ Some (pos (uses s))
  uses_are s h = rw (singles_at s h, ranges_at s h) refl

  -- a state that uses a cell exists
  exists : (s i : ℕ) → i < uses s → s < states a
  exists s i h = elim (cases_lt s (states a)) [
    | inl less ↦ less
    | inr past ↦
        let m = has-due a valid the.SingleLengths in
        let n = has-due a valid the.RangeLengths in
        let no_single = number_none a.single_lengths s (slice_get_past a.single_lengths s (omega (arith, m, past))) in
        let no_range = number_none a.range_lengths s (slice_get_past a.range_lengths s (omega (arith, n, past))) in
        absurd (omega (arith, no_single, no_range, h))
  ]

  some_same : (i k : ℕ) → Some i ≡ Some k → i ≡ k
  some_same i k e = cc

  within_state : (s : ℕ) (key : ℤ) (i : ℕ) → cell_within a s key ≡ Some i → i < uses s
  within_state s key i e = go (position (int_eq key) (single_keys a s)) refl e
    where
      single : (i : ℕ) → position (int_eq key) (single_keys a s) ≡ Some i → i < number_at a.single_lengths s + number_at a.range_lengths s
      single i f =
          let w = position-Some (int_eq key) (single_keys a s) i (pos 0) f in
          let l = length-take (number_at a.single_lengths s) (drop (number_at a.key_offsets s) a.trans_keys) in
          let few = w.0 in
          omega (arith, l, few)

      range : (i : ℕ) → option_map (λ r. number_at a.single_lengths s + r) (range_of key (range_ends a s)) ≡ Some i → i < number_at a.single_lengths s + number_at a.range_lengths s
      range i f =
          let r = map_some (λ r. number_at a.single_lengths s + r) (range_of key (range_ends a s)) i f in
          let w = range-within key (range_ends a s) r.0 r.1 in
          let l = length-take (2 * number_at a.range_lengths s) (drop (number_at a.key_offsets s + number_at a.single_lengths s) a.trans_keys) in
          let same = r.2 in
          omega (arith, l, w, same)

      go : (o : Option ℕ) → position (int_eq key) (single_keys a s) ≡ o → option_or o (option_map (λ r. number_at a.single_lengths s + r) (range_of key (range_ends a s))) ≡ Some i
          → i < number_at a.single_lengths s + number_at a.range_lengths s
      go None f e = range i e
      go (Some k) f e = let same : k ≡ i = some_same k i e in subst (λ j. j < number_at a.single_lengths s + number_at a.range_lengths s) same (single k f)

  -- the use of a key
  pub use_within : (s : ℕ) (key : ℤ) (i : ℕ) → cell_within a s key ≡ Some i → number_at a.cell_offsets s + i < places.uses
  use_within s key i e =
      let few = within_state s key i e in
      let there = exists s i few in
      let offset = number_at a.cell_offsets s in
      let next : sum_before (uses_of a) (s + 1) ≡ Some (pos (offset + uses s)) = sum-more (uses_of a) s ∙ (λ j. plus (places.offsets s there j) (uses_are s there j)) in
      let most = places.most (s + 1) (offset + uses s) (omega arith) next in
      omega (arith, few, most)

  -- the uses of a state are among all
  pub state_within : (s place : ℕ) → s < states a → IsIn (uses_of a) s place → place < places.uses
  state_within s place there at =
      let offset = number_at a.cell_offsets s in
      let next : sum_before (uses_of a) (s + 1) ≡ Some (pos (offset + uses s)) = sum-more (uses_of a) s ∙ (λ j. plus (places.offsets s there j) (uses_are s there j)) in
      let most = places.most (s + 1) (offset + uses s) (omega arith) next in
      let less : pos place <ℤ pos (offset + uses s) = subst (λ o. IsSomeAnd o (λ z. pos place <ℤ z)) next at.to in
      omega (arith, ints, less, most)

  -- ---- the entries of a cell

  abbrev size : ℕ → ℕ
  size c = cell_size a c

  widths_are : (c : ℕ) → c < length a.cell_asks → entries_of a c ≡ Some (pos (size c))
  widths_are c h = let x = element a.cell_asks c h in rw x.1 refl

  sums : (i : ℕ) → i ≤ length a.cell_asks → sum_before (entries_of a) i ≡ Some (pos (total size i))
  sums i h = sum-pos (entries_of a) size (length a.cell_asks) widths_are i h

  pub entry_count : ℕ
  entry_count = total size places.cells

  pub entries_end_is : entries_end a ≡ Some (pos entry_count)
  unfolding entry_count
  entries_end_is = let len = places.asks in rw (places.cells_are, sums places.cells (omega (arith, len))) refl

  pub targets_length : length a.trans_targs ≡ entry_count + 1
  targets_length = has-due a valid the.TransTargs ∙ one_more_is (entries_end a) entry_count (length a.trans_targs) entries_end_is

  pub lists_length : length a.trans_lists ≡ entry_count + 1
  lists_length = has-due a valid the.TransLists ∙ targets_length

  first_is : (c : ℕ) → c < places.cells → number_at a.cell_entries c ≡ total size c
  first_is c lt = let len = places.asks in some_pos (number_at a.cell_entries c) (total size c) (sym (places.entries c lt) ∙ sums c (omega (arith, len, lt)))

  pub entries_fit : (c : ℕ) → c < places.cells → number_at a.cell_entries c + size c ≤ entry_count
  unfolding entry_count
  entries_fit c lt = let f = first_is c lt in let far = total-< size c places.cells lt in omega (arith, f, far)

  pub entry_at : (c j : ℕ) → c < places.cells → j < size c
      → slice_get (cell_at a c).entries j ≡ Some (number_at a.trans_targs (number_at a.cell_entries c + j), number_at a.trans_lists (number_at a.cell_entries c + j))
  entry_at c j lt within =
      let first = number_at a.cell_entries c in
      let fit = entries_fit c lt in
      let m = targets_length in
      let n = lists_length in
      let targets = length-drop first a.trans_targs in
      let lists = length-drop first a.trans_lists in
      taken_get (drop first a.trans_targs) (drop first a.trans_lists) (size c) j within (omega (arith, targets, m, fit)) (omega (arith, lists, n, fit))
      ∙ (λ i. Some (number_behind a.trans_targs first j (first + j) refl i, number_behind a.trans_lists first j (first + j) refl i))

  pub entries_length : (c : ℕ) → c < places.cells → length (cell_at a c).entries ≡ size c
  entries_length c lt =
      let first = number_at a.cell_entries c in
      let fit = entries_fit c lt in
      let m = targets_length in
      let n = lists_length in
      let targets = length-drop first a.trans_targs in
      let lists = length-drop first a.trans_lists in
      taken_length (drop first a.trans_targs) (drop first a.trans_lists) (size c) (omega (arith, targets, m, fit)) (omega (arith, lists, n, fit))

-- how many uses there are, by the length of the array that has one element for each
uses_count : (a : Arrays) (valid : Valid a) → option_map_or natural (uses_end a) 0 ≡ (places a valid).uses
uses_count a valid = ap (λ o. option_map_or natural o 0) (places a valid).uses_are

pub count_shared : (a : Arrays) (valid : Valid a) → shares a ≡ true → length a.cell_uses - 1 ≡ option_map_or natural (uses_end a) 0
count_shared a valid e = let n = shared_len a (places a valid) e in let k = uses_count a valid in omega (arith, n, k)

pub count_own : (a : Arrays) (valid : Valid a) → shares a ≡ false → length a.cell_asks - 1 ≡ option_map_or natural (uses_end a) 0
count_own a valid e = let n = own_len a (places a valid) e in let k = uses_count a valid in omega (arith, n, k)
