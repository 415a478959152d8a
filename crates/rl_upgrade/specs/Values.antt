-- Cells that code has, as values, and the arrays that are made of them.
use Rattle.std.specs.Prelude.{ℕ, ℤ, List, map}
use denote.Ref.{Bor}
use Rattle.rl_arrays.specs.Shared.{Cell, shared, cell_number, uses_array, asks_array, entries_array, targets_array, lists_array}
use Rattle.rl_upgrade.specs.declared.cells.Leads.{Leads}
use Rattle.rl_upgrade.specs.declared.cells.Cell as held
use Rattle.rl_upgrade.specs.declared.shares.Stored.{Stored}

abbrev pub pair_of : Leads → ℕ × ℕ
pair_of l = (l.target, l.list)

abbrev pub value_of : held.Cell → Cell
value_of c = record { asks = c.asks; entries = map pair_of c.entries.items }

abbrev pub values : List (Bor held.Cell) → List Cell
values cells = map (λ (c : Bor held.Cell). value_of c.now) cells

-- the number of a cell among those that are stored, as a word that no search opens
unfoldable pub number_among : List Cell → Cell → ℕ
number_among cells c = cell_number cells c

-- the arrays of cells that are stored
abbrev pub arrays_of : List ℤ → List Cell → Stored
arrays_of uses cells = record {
  uses = uses;
  asks = asks_array cells;
  entries = entries_array cells;
  targets = targets_array cells;
  lists = lists_array cells;
}

-- each different one of those that are used is stored once
abbrev pub stored : List Cell → Stored
stored used = arrays_of (uses_array (shared used) used) (shared used)
