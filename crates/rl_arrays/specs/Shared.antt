-- Cells as values, each different one once, and the arrays that are made of them in version 2.
use Rattle.std.specs.Prelude.{ℕ, ◌+◌, ◌^◌, Bool, true, false, ◌&&◌, ℤ, pos, List, [], ◌∷◌, ◌++◌, length, map, take, drop, nat_eq, count_ones, unwrap_or, position, if◌then◌else◌}
use Rattle.std.specs.List.{list_any, flat_map, range_with_len, zip}
use Rattle.std.specs.Option.{option_map_or}
use Rattle.rl_arrays.specs.declared.arrays.Arrays.{Arrays}
use Rattle.rl_arrays.specs.Words.{natural, number_at}
use Rattle.rl_arrays.specs.Sizes.{uses_end}
use Rattle.rl_arrays.specs.TableMachine.{cell_used}

-- a cell: the conditions that it asks, and of each of its entries the target and the number of the list
pub record Cell : Type 0 where
  pub asks : ℕ
  pub entries : List (ℕ × ℕ)

-- two cells are equal where their asks and, entry by entry, their targets and lists are
abbrev pub same_entry : ℕ × ℕ → ℕ × ℕ → Bool
same_entry e f = nat_eq e.0 f.0 && nat_eq e.1 f.1

abbrev pub same_entries : List (ℕ × ℕ) → List (ℕ × ℕ) → Bool
same_entries [] [] = true
same_entries [] (f ∷ fs) = false
same_entries (e ∷ es) [] = false
same_entries (e ∷ es) (f ∷ fs) = same_entry e f && same_entries es fs

abbrev pub same_cell : Cell → Cell → Bool
same_cell c d = nat_eq c.asks d.asks && same_entries c.entries d.entries

-- with one more cell, unless an equal one is there
abbrev pub with_cell : List Cell → Cell → List Cell
with_cell cells c = if list_any (same_cell c) cells then cells else cells ++ c ∷ []

abbrev pub with_cells : List Cell → List Cell → List Cell
with_cells cells [] = cells
with_cells cells (c ∷ more) = with_cells (with_cell cells c) more

-- the cells of all uses in order, each different one once, at its first use
unfoldable pub shared : List Cell → List Cell
shared used = with_cells [] used

-- the number of a cell among those that are shared
abbrev pub cell_number : List Cell → Cell → ℕ
cell_number cells c = unwrap_or (position (same_cell c) cells) 0

-- ---- the arrays of shared cells; each has a closing 0

abbrev pub uses_array : List Cell → List Cell → List ℤ
uses_array cells used = map (λ c. pos (cell_number cells c)) used ++ pos 0 ∷ []

abbrev pub asks_array : List Cell → List ℤ
asks_array cells = map (λ c. pos c.asks) cells ++ pos 0 ∷ []

-- where the entries of each cell begin, from a place on
abbrev pub places_from : ℕ → List Cell → List ℤ
places_from place [] = []
places_from place (c ∷ cells) = pos place ∷ places_from (place + length c.entries) cells

abbrev pub entries_array : List Cell → List ℤ
entries_array cells = places_from 0 cells ++ pos 0 ∷ []

abbrev pub targets_array : List Cell → List ℤ
targets_array cells = flat_map (λ c. map (λ e. pos e.0) c.entries) cells ++ pos 0 ∷ []

abbrev pub lists_array : List Cell → List ℤ
lists_array cells = flat_map (λ c. map (λ e. pos e.1) c.entries) cells ++ pos 0 ∷ []

-- ---- the cells of arrays, and the same arrays with shared cells

abbrev pub cell_size : Arrays → ℕ → ℕ
cell_size a c = 2 ^ count_ones (number_at a.cell_asks c)

-- the elements of an array by entry that are those of a cell
abbrev pub of_cell : Arrays → List ℤ → ℕ → List ℕ
of_cell a numbers c = map natural (take (cell_size a c) (drop (number_at a.cell_entries c) numbers))

abbrev pub cell_at : Arrays → ℕ → Cell
cell_at a c = record { asks = number_at a.cell_asks c; entries = zip (of_cell a a.trans_targs c) (of_cell a a.trans_lists c) }

-- the cells of all uses, in order
abbrev pub cells_used : Arrays → List Cell
cells_used a = map (λ place. cell_at a (cell_used a place)) (range_with_len 0 (option_map_or natural (uses_end a) 0))

-- with these cells of uses, in version 2
abbrev pub with_shared : List Cell → List Cell → Arrays → Arrays
with_shared cells used a = record a {
  version = pos 2;
  cell_uses = uses_array cells used;
  cell_asks = asks_array cells;
  cell_entries = entries_array cells;
  trans_targs = targets_array cells;
  trans_lists = lists_array cells;
}

-- the arrays in version 2: the cells that are used, numbered in order of first use, no two of them equal
unfoldable pub upgraded : Arrays → Arrays
upgraded a = with_shared (shared (cells_used a)) (cells_used a) a
