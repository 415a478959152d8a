-- How many states, keys, cells, entries and statements arrays speak of.
use Rattle.std.specs.Prelude.{◌≡◌, ℕ, ◌+◌, ◌-◌, ◌^◌, ◌<◌, max, min, ℤ, pos, ◌+ℤ◌, ◌≤ℤ◌, ◌<ℤ◌, Option, Some, None, IsSomeAnd, length, slice_get, option_and_then, count_ones, if◌then◌else◌, Bool}
use Rattle.std.specs.Option.{option_map}
use Rattle.std.specs.Ordering.{int_eq}
use Rattle.rl_arrays.specs.declared.arrays.Arrays.{Arrays}
use Rattle.rl_arrays.specs.declared.arrays.ArrayName.{ArrayName}
use Rattle.rl_arrays.specs.declared.arrays.ArrayName.TheVariants as the
use Rattle.rl_arrays.specs.Words.{natural, plus, sum_before}
use Rattle.rl_arrays.specs.Lists.{left_at}

abbrev pub states : Arrays → ℕ
states a = length a.key_offsets

-- element 0 of the names of conditions is none
abbrev pub conditions : Arrays → ℕ
conditions a = length a.cond_names - 1

-- how many places the keys of a state take: one a single key, two a range
abbrev pub keys_of : Arrays → ℕ → Option ℤ
keys_of a s = plus (slice_get a.single_lengths s) (plus (slice_get a.range_lengths s) (slice_get a.range_lengths s))

-- keys share cells
abbrev pub shares : Arrays → Bool
shares a = int_eq a.version (pos 2)

-- how many cells the keys of a state use: one a single key, one a range
abbrev pub uses_of : Arrays → ℕ → Option ℤ
uses_of a s = plus (slice_get a.single_lengths s) (slice_get a.range_lengths s)

-- how many entries a cell has: one for each truths of its asked conditions
abbrev pub entries_of : Arrays → ℕ → Option ℤ
entries_of a c = option_map (λ asks. pos (2 ^ count_ones (natural asks))) (slice_get a.cell_asks c)

-- how many statements an action has
abbrev pub statements_of : Arrays → ℕ → Option ℤ
statements_of a k = slice_get a.stmt_counts k

-- the place behind the keys of all states, their uses of cells, the cells, the entries of all cells
abbrev pub keys_end : Arrays → Option ℤ
keys_end a = sum_before (keys_of a) (states a)

abbrev pub uses_end : Arrays → Option ℤ
uses_end a = sum_before (uses_of a) (states a)

-- cells that are shared are as many as `cell_asks` has before its closing element
abbrev pub shared_cells : Arrays → ℕ
shared_cells a = length a.cell_asks - 1

abbrev pub cells_end : Arrays → Option ℤ
cells_end a = if shares a then Some (pos (shared_cells a)) else uses_end a

abbrev pub entries_end : Arrays → Option ℤ
entries_end a = option_and_then (λ cells. sum_before (entries_of a) (natural cells)) (cells_end a)

abbrev pub statements_end : Arrays → Option ℤ
statements_end a = sum_before (statements_of a) (length a.stmt_counts)

-- the place is the one behind all, where the closing element stands
abbrev pub IsClosing : Option ℤ → ℕ → Type 0
IsClosing end place = end ≡ Some (pos place)

-- of things that take places one after another, the place is one of thing i
pub record IsIn (width : ℕ → Option ℤ) (i place : ℕ) : Type 0 where
  pub from : IsSomeAnd (sum_before width i) (λ first. first ≤ℤ pos place)
  pub to : IsSomeAnd (sum_before width (i + 1)) (λ next. pos place <ℤ next)

-- the number of the cell that a use uses: its own, or in version 2 what `cell_uses` has for it
abbrev pub used_cell : Arrays → ℕ → Option ℤ
used_cell a place = if shares a then slice_get a.cell_uses place else Some (pos place)

-- the entry is one of a cell that the state uses
pub record IsEntryOf (a : Arrays) (s e : ℕ) : Type 0 where
  pub place : ℕ
  pub cell : ℕ
  pub state : s < states a
  pub of_state : IsIn (uses_of a) s place
  pub of_use : used_cell a place ≡ Some (pos cell)
  pub of_cell : IsIn (entries_of a) cell e

-- how many elements an array has
abbrev pub has : Arrays → ArrayName → ℕ
has a the.Actions = length a.actions
has a the.KeyOffsets = length a.key_offsets
has a the.TransKeys = length a.trans_keys
has a the.SingleLengths = length a.single_lengths
has a the.RangeLengths = length a.range_lengths
has a the.CellOffsets = length a.cell_offsets
has a the.CellUses = length a.cell_uses
has a the.CellAsks = length a.cell_asks
has a the.CellEntries = length a.cell_entries
has a the.TransTargs = length a.trans_targs
has a the.TransLists = length a.trans_lists
has a the.FromLists = length a.from_lists
has a the.ToLists = length a.to_lists
has a the.EofLists = length a.eof_lists
has a the.ErrorLists = length a.error_lists
has a the.AcceptLists = length a.accept_lists
has a the.StateKinds = length a.state_kinds
has a the.Homes = length a.homes
has a the.ActionNames = length a.action_names
has a the.StmtFirsts = length a.stmt_firsts
has a the.StmtCounts = length a.stmt_counts
has a the.StmtKinds = length a.stmt_kinds
has a the.StmtOuter = length a.stmt_outer
has a the.StmtArgs = length a.stmt_args
has a the.StmtBases = length a.stmt_bases
has a the.CondNames = length a.cond_names
has a the.EntryNames = length a.entry_names
has a the.EntryStates = length a.entry_states

-- one more than a sum, for the closing element; where the sum is not known nothing is due
abbrev pub one_more : Option ℤ → ℕ → ℕ
one_more None has = has
one_more (Some sum) has = natural (sum +ℤ pos 1)

-- the greatest number of states, actions or entries, with the element 0
abbrev pub most : ℕ
most = 2147483647

-- how many elements it is to have: as many as the first array of its index, or a bound that its own number is within
abbrev pub due : Arrays → ArrayName → ℕ
due a the.Actions = max 1 (length a.actions + left_at a.actions (length a.actions))
due a the.KeyOffsets = max 2 (min most (length a.key_offsets))
due a the.TransKeys = one_more (keys_end a) (length a.trans_keys)
due a the.SingleLengths = states a
due a the.RangeLengths = states a
due a the.CellOffsets = states a
due a the.CellUses = if shares a then one_more (uses_end a) (length a.cell_uses) else 0
due a the.CellAsks = one_more (cells_end a) (length a.cell_asks)
due a the.CellEntries = length a.cell_asks
due a the.TransTargs = one_more (entries_end a) (length a.trans_targs)
due a the.TransLists = length a.trans_targs
due a the.FromLists = states a
due a the.ToLists = states a
due a the.EofLists = states a
due a the.ErrorLists = states a
due a the.AcceptLists = states a
due a the.StateKinds = states a
due a the.Homes = states a
due a the.ActionNames = max 1 (min most (length a.action_names))
due a the.StmtFirsts = length a.action_names
due a the.StmtCounts = length a.action_names
due a the.StmtKinds = one_more (statements_end a) (length a.stmt_kinds)
due a the.StmtOuter = length a.stmt_kinds
due a the.StmtArgs = length a.stmt_kinds
due a the.StmtBases = length a.stmt_kinds
due a the.CondNames = max 1 (min 9 (length a.cond_names))
due a the.EntryNames = max 2 (min most (length a.entry_names))
due a the.EntryStates = length a.entry_names
