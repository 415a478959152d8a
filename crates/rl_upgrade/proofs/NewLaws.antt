-- The cells that are stored, and their elements in the new arrays.
use Rattle.std.proofs.Common.{◌≡◌, ℕ, ◌+◌, ◌<◌, ℤ, pos, List, [], ◌∷◌, ◌++◌, length, map, Option, Some, sym, ap, ◌∙◌, arith}
use Rattle.std.specs.Prelude.{slice_get, None, ◌==◌, if◌then◌else◌}
use Rattle.std.specs.List.{flat_map, range_with_len}
use Rattle.std.specs.Option.{option_map, option_map_or}
use Rattle.std.proofs.lemmas.List.FromFn.{length-map-range_with_len}
use Rattle.std.proofs.lemmas.Option.{slice_get-map, slice_get_within}
use Rattle.rl_run.specs.Machine.{Go}
use Rattle.rl_arrays.specs.declared.arrays.Arrays.{Arrays}
use Rattle.rl_arrays.specs.Words.{natural, number_at}
use Rattle.rl_arrays.specs.Lists.{members}
use Rattle.rl_arrays.specs.Valid.{Valid}
use Rattle.rl_arrays.specs.Shared.{Cell, shared, cell_number, places_from, cell_size, cell_at, cells_used, with_shared}
use Rattle.rl_arrays.specs.TableMachine.{cell_used, step_of}
use Rattle.rl_tables.proofs.Elements.{number-at}
use Rattle.rl_upgrade.proofs.ListLaws.{front_get, made_get, all_at, all_from}
use Rattle.rl_upgrade.proofs.Segments.{begins, in_segment, map_flat_map}
use Rattle.rl_upgrade.proofs.ShareLaws.{shared_there, shared_all, entries_in, place_at}
use Rattle.rl_upgrade.proofs.OldLaws.{places, entry_at}

module _ (a : Arrays) (valid : Valid a) where
  abbrev pub uses : ℕ
  uses = (places a valid).uses

  abbrev pub used : List Cell
  used = cells_used a

  abbrev pub kept : List Cell
  kept = shared used

  abbrev pub b : Arrays
  b = with_shared kept used a

  -- the cell of a use
  abbrev pub old : ℕ → Cell
  old place = cell_at a (cell_used a place)

  -- its number among those that are stored
  abbrev pub number : ℕ → ℕ
  number place = cell_number kept (old place)

  used_are : used ≡ map old (range_with_len 0 uses)
  used_are = ap (λ o. map old (range_with_len 0 (option_map_or natural o 0))) (places a valid).uses_are

  pub used_length : length used ≡ uses
  used_length = ap (λ (w : List Cell). length w) used_are ∙ length-map-range_with_len old 0 uses

  pub used_at : (p : ℕ) → p < uses → slice_get used p ≡ Some (old p)
  used_at p lt =
      let none : 0 + p ≡ p = omega arith in
      ap (λ w. slice_get w p) used_are ∙ made_get old 0 uses p lt ∙ ap (λ k. Some (old k)) none

  pub kept_at : (p : ℕ) → p < uses → slice_get kept (number p) ≡ Some (old p)
  kept_at p lt = shared_there used p (old p) (used_at p lt)

  pub use_at : (p : ℕ) → p < uses → slice_get b.cell_uses p ≡ Some (pos (number p))
  use_at p lt =
      front_get (map (λ c. pos (cell_number kept c)) used) (pos 0 ∷ []) p (pos (number p))
      (slice_get-map (λ c. pos (cell_number kept c)) used p ∙ ap (option_map (λ c. pos (cell_number kept c))) (used_at p lt))

  pub new_cell : (p : ℕ) → p < uses → cell_used b p ≡ number p
  new_cell p lt = number-at b.cell_uses p (pos (number p)) (use_at p lt)

  -- a stored cell is that of some use
  pub record Origin (c : Cell) : Type 0 where
    pub place : ℕ
    pub within : place < uses
    pub is : c ≡ old place

  pub origin : (n : ℕ) (c : Cell) → slice_get kept n ≡ Some c → Origin c
  origin n c e = all_at Origin kept n c (shared_all Origin used (all_from Origin used from)) e
    where
      from : (i : ℕ) (x : Cell) → slice_get used i ≡ Some x → Origin x
      from i x h =
          let less : i < uses = let l = slice_get_within used i x h in let n = used_length in omega (arith, l, n) in
          let there = used_at i less in
          let same : x ≡ old i = cc in
          record { place = i; within = less; is = same }

  -- ---- elements of a stored cell

  pub new_asks : (n : ℕ) (c : Cell) → slice_get kept n ≡ Some c → slice_get b.cell_asks n ≡ Some (pos c.asks)
  new_asks n c e =
      front_get (map (λ (c : Cell). pos c.asks) kept) (pos 0 ∷ []) n (pos c.asks) (slice_get-map (λ (c : Cell). pos c.asks) kept n ∙ ap (option_map (λ (c : Cell). pos c.asks)) e)

  pub new_place : (n : ℕ) (c : Cell) → slice_get kept n ≡ Some c → slice_get b.cell_entries n ≡ Some (pos (begins entries_in kept n))
  new_place n c e =
      let none : 0 + begins entries_in kept n ≡ begins entries_in kept n = omega arith in
      front_get (places_from 0 kept) (pos 0 ∷ []) n (pos (begins entries_in kept n)) (place_at kept 0 n c e ∙ ap (λ (k : ℕ). Some (pos k)) none)

  abbrev pub entries : List (ℕ × ℕ)
  entries = flat_map entries_in kept

  -- an array by entry, made of the entries one after another
  pub by_entry : (g : ℕ × ℕ → ℤ) → flat_map (λ c. map g (entries_in c)) kept ≡ map g entries
  by_entry g = sym (map_flat_map g entries_in kept)

  pub made_entry : (g : ℕ × ℕ → ℤ) (n j : ℕ) (c : Cell) (e : ℕ × ℕ) → slice_get kept n ≡ Some c → slice_get c.entries j ≡ Some e
      → slice_get (flat_map (λ c. map g (entries_in c)) kept ++ pos 0 ∷ []) (begins entries_in kept n + j) ≡ Some (g e)
  made_entry g n j c e there h =
      front_get (flat_map (λ c. map g (entries_in c)) kept) (pos 0 ∷ []) (begins entries_in kept n + j) (g e)
      (ap (λ w. slice_get w (begins entries_in kept n + j)) (by_entry g) ∙ slice_get-map g entries (begins entries_in kept n + j) ∙ ap (option_map g) (in_segment entries_in kept n j c e there h))

  -- ---- the cell of a use, old and new

  pub asks_same : (p : ℕ) → p < uses → number_at b.cell_asks (cell_used b p) ≡ number_at a.cell_asks (cell_used a p)
  asks_same p lt =
      ap (number_at b.cell_asks) (new_cell p lt)
      ∙ number-at b.cell_asks (number p) (pos (old p).asks) (new_asks (number p) (old p) (kept_at p lt))

  abbrev go : ℕ → ℕ → Option (Go ℕ)
  go target list = if target == 0 then None else Some (record { target = target; list = members a.actions list })

  pub step_same : (p j : ℕ) → p < uses → j < cell_size a (cell_used a p)
      → step_of b (number_at b.cell_entries (cell_used b p) + j) ≡ step_of a (number_at a.cell_entries (cell_used a p) + j)
  step_same p j lt within =
      let n = number p in
      let first = begins entries_in kept n in
      let there = kept_at p lt in
      let place : number_at b.cell_entries (cell_used b p) ≡ first = ap (number_at b.cell_entries) (new_cell p lt) ∙ number-at b.cell_entries n (pos first) (new_place n (old p) there) in
      let before = number_at a.cell_entries (cell_used a p) + j in
      let e : ℕ × ℕ = (number_at a.trans_targs before, number_at a.trans_lists before) in
      let has : slice_get (old p).entries j ≡ Some e = entry_at a valid (cell_used a p) j ((places a valid).within p lt) within in
      let target : number_at b.trans_targs (first + j) ≡ e.0 = number-at b.trans_targs (first + j) (pos e.0) (made_entry (λ e. pos e.0) n j (old p) e there has) in
      let list : number_at b.trans_lists (first + j) ≡ e.1 = number-at b.trans_lists (first + j) (pos e.1) (made_entry (λ e. pos e.1) n j (old p) e there has) in
      ap (λ k. step_of b (k + j)) place ∙ (λ i. go (target i) (list i))
