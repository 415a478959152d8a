-- A section put together line by line.
use Rattle.std.specs.Prelude.{ℕ, ℤ, pos, Bool, if◌then◌else◌, List, [], ◌∷◌, ◌++◌}
use Rattle.rl_arrays.specs.declared.arrays.Arrays.{Arrays}
use Rattle.rl_arrays.specs.declared.arrays.ArrayName.{ArrayName}
use Rattle.rl_arrays.specs.declared.arrays.ArrayName.TheVariants as array
use Rattle.rl_cread.specs.declared.said.Said.{Said}
use Rattle.rl_cread.specs.declared.said.Said.TheVariants as the
use Rattle.rl_cread.specs.declared.said.Label.{Label}
use Rattle.rl_cread.specs.declared.said.Label.TheVariants as label
use Rattle.rl_cread.specs.declared.raw.Raw.{Raw}

-- the version of arrays whose keys share cells, or of those whose keys do not
abbrev pub version_of : Bool → ℤ
version_of shared = if shared then pos 2 else pos 1

-- arrays without elements
abbrev pub empty : Bool → List ℕ → Arrays
empty shared name = record {
  version = version_of shared;
  name = name;
  start = pos 0;
  first_final = pos 0;
  alphabet = pos 0;
  actions = [];
  key_offsets = [];
  trans_keys = [];
  single_lengths = [];
  range_lengths = [];
  cell_offsets = [];
  cell_uses = [];
  cell_asks = [];
  cell_entries = [];
  trans_targs = [];
  trans_lists = [];
  from_lists = [];
  to_lists = [];
  eof_lists = [];
  error_lists = [];
  accept_lists = [];
  state_kinds = [];
  homes = [];
  action_names = [];
  stmt_firsts = [];
  stmt_counts = [];
  stmt_kinds = [];
  stmt_outer = [];
  stmt_args = [];
  stmt_bases = [];
  cond_names = [];
  entry_names = [];
  entry_states = [];
}

abbrev pub with_number : Label → ℤ → Arrays → Arrays
with_number label.Start n a = record a { start = n }
with_number label.FirstFinal n a = record a { first_final = n }
with_number label.Alphabet n a = record a { alphabet = n }

abbrev pub with_numbers : ArrayName → List ℤ → Arrays → Arrays
with_numbers array.Actions ns a = record a { actions = ns }
with_numbers array.KeyOffsets ns a = record a { key_offsets = ns }
with_numbers array.TransKeys ns a = record a { trans_keys = ns }
with_numbers array.SingleLengths ns a = record a { single_lengths = ns }
with_numbers array.RangeLengths ns a = record a { range_lengths = ns }
with_numbers array.CellOffsets ns a = record a { cell_offsets = ns }
with_numbers array.CellUses ns a = record a { cell_uses = ns }
with_numbers array.CellAsks ns a = record a { cell_asks = ns }
with_numbers array.CellEntries ns a = record a { cell_entries = ns }
with_numbers array.TransTargs ns a = record a { trans_targs = ns }
with_numbers array.TransLists ns a = record a { trans_lists = ns }
with_numbers array.FromLists ns a = record a { from_lists = ns }
with_numbers array.ToLists ns a = record a { to_lists = ns }
with_numbers array.EofLists ns a = record a { eof_lists = ns }
with_numbers array.ErrorLists ns a = record a { error_lists = ns }
with_numbers array.AcceptLists ns a = record a { accept_lists = ns }
with_numbers array.StateKinds ns a = record a { state_kinds = ns }
with_numbers array.Homes ns a = record a { homes = ns }
with_numbers array.ActionNames ns a = a
with_numbers array.StmtFirsts ns a = record a { stmt_firsts = ns }
with_numbers array.StmtCounts ns a = record a { stmt_counts = ns }
with_numbers array.StmtKinds ns a = record a { stmt_kinds = ns }
with_numbers array.StmtOuter ns a = record a { stmt_outer = ns }
with_numbers array.StmtArgs ns a = record a { stmt_args = ns }
with_numbers array.StmtBases ns a = record a { stmt_bases = ns }
with_numbers array.CondNames ns a = a
with_numbers array.EntryNames ns a = a
with_numbers array.EntryStates ns a = record a { entry_states = ns }

abbrev pub with_names : ArrayName → List (List ℕ) → Arrays → Arrays
with_names array.ActionNames names a = record a { action_names = names }
with_names array.CondNames names a = record a { cond_names = names }
with_names array.EntryNames names a = record a { entry_names = names }
with_names array names a = a

-- a section with what one more line says
abbrev pub put : Said → Raw → Raw
put (the.Number label n) raw = record raw { arrays = with_number label n raw.arrays }
put the.Error raw = raw
put (the.Entry entry n) raw = record raw { entries = raw.entries ++ ((entry, n) ∷ []) }
put (the.Numbers array ns) raw = record raw { arrays = with_numbers array ns raw.arrays }
put (the.Names array names) raw = record raw { arrays = with_names array names raw.arrays }
put the.Last raw = raw

-- a section with what more lines say
abbrev pub filled : List Said → Raw → Raw
filled [] raw = raw
filled (s ∷ ss) raw = filled ss (put s raw)
