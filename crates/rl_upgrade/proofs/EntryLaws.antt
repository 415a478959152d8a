-- The entries of the cells that are stored are entries of the old cells.
use Rattle.std.proofs.Common.{◌≡◌, ℕ, ◌+◌, ◌^◌, ◌<◌, ℤ, pos, List, [], ◌∷◌, ◌++◌, length, map, Some, refl, sym, ap, ◌∙◌, subst, arith, length-append}
use Rattle.std.specs.Prelude.{slice_get, count_ones, option_and_then}
use Rattle.std.specs.Option.{option_map}
use Rattle.std.specs.List.{flat_map}
use Rattle.std.proofs.lemmas.Int.{ints}
use Rattle.std.proofs.lemmas.List.{length-map}
use Rattle.std.proofs.lemmas.Option.{slice_get_within}
use Rattle.rl_arrays.specs.declared.arrays.Arrays.{Arrays}
use Rattle.rl_arrays.specs.declared.arrays.ArrayName.TheVariants as the
use Rattle.rl_arrays.specs.Words.{natural, number_at, sum_before}
use Rattle.rl_arrays.specs.Sizes.{entries_of, entries_end, cells_end, shared_cells, IsEntryOf}
use Rattle.rl_arrays.specs.Rules.{TargetSays, StepListSays}
use Rattle.rl_arrays.specs.Valid.{Valid}
use Rattle.rl_arrays.specs.Shared.{Cell, cell_size}
use Rattle.rl_arrays.specs.TableMachine.{cell_used}
use Rattle.rl_tables.proofs.Elements.{right, has-due, element, if_at, number-at, nonneg}
use Rattle.rl_tables.proofs.EntryLaws.{cell_entries}
use Rattle.rl_upgrade.proofs.Segments.{in_segment, begins_all, AreLengths, sum_is, place_of, stands_in}
use Rattle.rl_upgrade.proofs.ShareLaws.{entries_in}
use Rattle.rl_upgrade.proofs.OldLaws.{some_pos, places, state_within, entry_count, targets_length, entries_fit, entry_at, entries_length}
use Rattle.rl_upgrade.proofs.NewLaws.{uses, kept, b, old, number, origin, kept_at, use_at, new_asks, entries, by_entry}

module _ (a : Arrays) (valid : Valid a) where
  abbrev new : Arrays
  new = b a valid

  -- ---- how many

  stored_asks : length new.cell_asks ≡ length (kept a valid) + 1
  stored_asks =
      let n = length-append (map (λ (c : Cell). pos c.asks) (kept a valid)) (pos 0 ∷ []) in
      let k = length-map (kept a valid) (λ (c : Cell). pos c.asks) in
      omega (arith, n, k)

  pub cells_are : shared_cells new ≡ length (kept a valid)
  cells_are = let n = stored_asks in omega (arith, n)

  pub asks_length : length new.cell_asks ≡ length (kept a valid) + 1
  asks_length = stored_asks

  pub cells_end_is : cells_end new ≡ Some (pos (length (kept a valid)))
  cells_end_is = ap (λ n. Some (pos n)) cells_are

  pub widths : AreLengths (entries_of new) entries_in (kept a valid)
  widths n c e =
      let o = origin a valid n c e in
      let cell = cell_used a o.place in
      let same : length c.entries ≡ 2 ^ count_ones c.asks =
      subst (λ (x : Cell). length x.entries ≡ 2 ^ count_ones x.asks) (sym o.is) (entries_length a valid cell ((places a valid).within o.place o.within)) in
      ap (option_map (λ asks. pos (2 ^ count_ones (natural asks)))) (new_asks a valid n c e) ∙ ap (λ k. Some (pos k)) (sym same)

  pub new_entries_end : entries_end new ≡ Some (pos (length (entries a valid)))
  new_entries_end =
      (λ i. option_and_then (λ cells. sum_before (entries_of new) (natural cells)) (cells_end_is i))
      ∙ sum_is (entries_of new) entries_in (kept a valid) widths (length (kept a valid)) (omega arith)
      ∙ ap (λ n. Some (pos n)) (begins_all entries_in (kept a valid))

  -- ---- the old entry of a place

  pub record OldEntry (e : ℕ × ℕ) : Type 0 where
    pub place : ℕ
    pub within : place < entry_count a valid
    pub target : slice_get a.trans_targs place ≡ Some (pos e.0)
    pub list : slice_get a.trans_lists place ≡ Some (pos e.1)

  -- what an old entry says
  pub old_target : (m : ℕ) → m < entry_count a valid → TargetSays a m (pos (number_at a.trans_targs m)) × (slice_get a.trans_targs m ≡ Some (pos (number_at a.trans_targs m)))
  old_target m lt =
      let len = targets_length a valid in
      let whole = has-due a valid the.TransTargs in
      let r = right a valid the.TransTargs m (omega (arith, len, whole, lt)) in
      let x = element a.trans_targs m r.there in
      let says = if_at a.trans_targs m x.0 (TargetSays a m) x.1 r.says in
      let same : x.0 ≡ pos (number_at a.trans_targs m) = nonneg x.0 says.state.0 ∙ ap (λ k. pos k) (sym (number-at a.trans_targs m x.0 x.1)) in
      (subst (TargetSays a m) same says, x.1 ∙ ap (λ z. Some z) same)

  pub old_list : (m : ℕ) → m < entry_count a valid → StepListSays a m (pos (number_at a.trans_lists m)) × (slice_get a.trans_lists m ≡ Some (pos (number_at a.trans_lists m)))
  old_list m lt =
      let len = targets_length a valid in
      let r = right a valid the.TransLists m (omega (arith, len, lt)) in
      let x = element a.trans_lists m r.there in
      let says = if_at a.trans_lists m x.0 (StepListSays a m) x.1 r.says in
      let same : x.0 ≡ pos (number_at a.trans_lists m) = nonneg x.0 says.list.positive ∙ ap (λ k. pos k) (sym (number-at a.trans_lists m x.0 x.1)) in
      (subst (StepListSays a m) same says, x.1 ∙ ap (λ z. Some z) same)

  -- an entry of the cell of a use
  of_use : (p j : ℕ) (e : ℕ × ℕ) → p < uses a valid → slice_get (old a valid p).entries j ≡ Some e
      → (j < cell_size a (cell_used a p)) × (d : OldEntry e) × (d.place ≡ number_at a.cell_entries (cell_used a p) + j)
  of_use p j e lt has = (
    few,
    record {
      place = m;
      within = less;
      target = (old_target m less).1 ∙ ap (λ (x : ℕ × ℕ). Some (pos x.0)) same;
      list = (old_list m less).1 ∙ ap (λ (x : ℕ × ℕ). Some (pos x.1)) same;
    },
    refl,
  )
    where
      cell : ℕ
      cell = cell_used a p

      inside : cell < (places a valid).cells
      inside = (places a valid).within p lt

      few : j < cell_size a cell
      few = let l = slice_get_within (old a valid p).entries j e has in let n = entries_length a valid cell inside in omega (arith, l, n)

      m : ℕ
      m = number_at a.cell_entries cell + j

      less : m < entry_count a valid
      less = let f = entries_fit a valid cell inside in let k = few in omega (arith, f, k)

      same : (number_at a.trans_targs m, number_at a.trans_lists m) ≡ e
      same = let there = entry_at a valid cell j inside few in cc

  pub old_entry : (n : ℕ) (e : ℕ × ℕ) → slice_get (entries a valid) n ≡ Some e → OldEntry e
  old_entry n e h =
      let s = stands_in entries_in (kept a valid) n e h in
      let o = origin a valid s.outer s.thing s.there in
      (of_use o.place s.inner e o.within (subst (λ (x : Cell). slice_get x.entries s.inner ≡ Some e) o.is s.has)).1

  -- ---- the entry of a state

  pub record OfState (s n : ℕ) : Type 0 where
    pub entry : ℕ × ℕ
    pub there : slice_get (entries a valid) n ≡ Some entry
    pub old_one : OldEntry entry
    pub of_state : IsEntryOf a s old_one.place

  pub entry_of_state : (s n : ℕ) → IsEntryOf new s n → OfState s n
  entry_of_state s n h =
      let p = h.place in
      let lt : p < uses a valid = state_within a valid s p h.state h.of_state in
      let cell : h.cell ≡ number a valid p = some_pos h.cell (number a valid p) (sym h.of_use ∙ use_at a valid p lt) in
      let here : slice_get (kept a valid) h.cell ≡ Some (old a valid p) = ap (slice_get (kept a valid)) cell ∙ kept_at a valid p lt in
      let d = place_of (entries_of new) entries_in (kept a valid) widths h.cell n (slice_get_within (kept a valid) h.cell (old a valid p) here) h.of_cell in
      let same : d.thing ≡ old a valid p = let t = d.there in cc in
      let w = element (entries_in d.thing) d.inner d.within in
      let has : slice_get (old a valid p).entries d.inner ≡ Some w.0 = subst (λ (x : Cell). slice_get x.entries d.inner ≡ Some w.0) same w.1 in
      let q = of_use p d.inner w.0 lt has in
      let less = (places a valid).within p lt in
      let first = number_at a.cell_entries (cell_used a p) in
      let at = q.2 in
      let few = q.0 in
      record {
        entry = w.0;
        there = ap (slice_get (entries a valid)) d.place_is ∙ in_segment entries_in (kept a valid) h.cell d.inner d.thing w.0 d.there w.1;
        old_one = q.1;
        of_state = record {
          place = p;
          cell = cell_used a p;
          state = h.state;
          of_state = h.of_state;
          of_use = (places a valid).used p lt;
          of_cell = (cell_entries a (places a valid) (cell_used a p) q.1.place less).1 (
            omega (arith, ints, at),
            omega (arith, ints, at, few),
          );
        };
      }

  -- ---- arrays by entry

  pub array_length : (g : ℕ × ℕ → ℤ) → length (flat_map (λ c. map g (entries_in c)) (kept a valid) ++ pos 0 ∷ []) ≡ length (entries a valid) + 1
  array_length g =
      let n = length-append (flat_map (λ c. map g (entries_in c)) (kept a valid)) (pos 0 ∷ []) in
      let k = ap (λ (w : List ℤ). length w) (by_entry a valid g) ∙ length-map (entries a valid) g in
      omega (arith, n, k)
