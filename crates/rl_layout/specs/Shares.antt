-- The cells that the keys of states use, as values. Those that are equal are stored once.
use Rattle.std.specs.Prelude.{ℕ, ℤ, List, map, Option}
use Rattle.std.specs.List.{flat_map, range_with_len}
use denote.Ref.{Bor}
use Rattle.rl_types.specs.declared.numbers.ActionId.{ActionId}
use Rattle.rl_arrays.specs.Shared.{Cell, shared, cell_number, uses_array, asks_array, entries_array, targets_array, lists_array}
use Rattle.rl_minimal.specs.declared.state.MinEdge.{MinEdge}
use Rattle.rl_minimal.specs.declared.state.MinState.{MinState}
use Rattle.rl_layout.specs.declared.runs.Run.{Run}
use Rattle.rl_layout.specs.declared.shares.Leads as laid_entry
use Rattle.rl_layout.specs.declared.shares.Cell as laid_cell
use Rattle.rl_layout.specs.declared.shares.Stored.{Stored}
use Rattle.rl_layout.specs.Runs.{edges_of}
use Rattle.rl_layout.specs.Cells.{ordered_of, asks_of, entry_count, edge_at, target_of}
use Rattle.rl_layout.specs.Books.{list_of, place_in}

-- where an entry leads: its target, and the place of its list
abbrev pub leads : List (List ActionId) → Option MinEdge → ℕ × ℕ
leads lists step = (target_of step, place_in lists (list_of step))

-- the cell of a run
abbrev pub cell_of : List (List ActionId) → List MinEdge → Run → Cell
cell_of lists edges r = record {
  asks = asks_of edges r;
  entries = map (λ j. leads lists (edge_at (asks_of edges r) j (edges_of edges r))) (range_with_len 0 (entry_count edges r));
}

abbrev pub cells_in : List (List ActionId) → MinState → List Cell
cells_in lists s = map (cell_of lists s.edges) (ordered_of s)

-- the cells of all keys, state by state
abbrev pub cells_used : List (List ActionId) → List MinState → List Cell
cells_used lists states = flat_map (cells_in lists) states

-- ---- arrays

-- the arrays of cells that are stored
abbrev pub arrays_of : List ℤ → List Cell → Stored
arrays_of uses cells = record {
  uses = uses;
  asks = asks_array cells;
  entries = entries_array cells;
  targets = targets_array cells;
  lists = lists_array cells;
}

-- each different one of those that are used is stored once
abbrev pub stored : List Cell → Stored
stored used = arrays_of (uses_array (shared used) used) (shared used)

-- ---- values that code has

abbrev pub pair_of : laid_entry.Leads → ℕ × ℕ
pair_of l = (l.target, l.list)

abbrev pub value_of : laid_cell.Cell → Cell
value_of c = record { asks = c.asks; entries = map pair_of c.entries.items }

abbrev pub values : List (Bor laid_cell.Cell) → List Cell
values cells = map (λ (c : Bor laid_cell.Cell). value_of c.now) cells

-- the number of a cell among those that are stored, as a word that no search opens
unfoldable pub number_among : List Cell → Cell → ℕ
number_among cells c = cell_number cells c
