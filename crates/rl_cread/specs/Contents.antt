-- What the lines of arrays may say.
use Rattle.std.specs.Prelude.{◌≡◌, ℕ, ℤ, Bool, false, IsTrue, ◌||◌, List, []}
use Rattle.std.specs.List.{AllByRecursion}
use Rattle.std.specs.Int.{w64}
use Rattle.std.specs.Int.RustNames.{FitsSigned}
use Rattle.std.specs.Str.{bytes_eq}
use Rattle.rl_arrays.specs.declared.arrays.Arrays.{Arrays}
use Rattle.rl_arrays.specs.declared.arrays.ArrayName.{ArrayName}
use Rattle.rl_arrays.specs.declared.arrays.ArrayName.TheVariants as the
use Rattle.rl_arrays.specs.Names.{is_name, is_action_name}
use Rattle.rl_arrays.specs.Sizes.{shares}
use Rattle.rl_arrays.specs.Valid.{IsVersioned}

-- the elements of an array
pub data Content : Type 0 where
  Numbers : List ℤ → Content
  Names : List (List ℕ) → Content

abbrev pub content : Arrays → ArrayName → Content
content a the.Actions = Numbers a.actions
content a the.KeyOffsets = Numbers a.key_offsets
content a the.TransKeys = Numbers a.trans_keys
content a the.SingleLengths = Numbers a.single_lengths
content a the.RangeLengths = Numbers a.range_lengths
content a the.CellOffsets = Numbers a.cell_offsets
content a the.CellUses = Numbers a.cell_uses
content a the.CellAsks = Numbers a.cell_asks
content a the.CellEntries = Numbers a.cell_entries
content a the.TransTargs = Numbers a.trans_targs
content a the.TransLists = Numbers a.trans_lists
content a the.FromLists = Numbers a.from_lists
content a the.ToLists = Numbers a.to_lists
content a the.EofLists = Numbers a.eof_lists
content a the.ErrorLists = Numbers a.error_lists
content a the.AcceptLists = Numbers a.accept_lists
content a the.StateKinds = Numbers a.state_kinds
content a the.Homes = Numbers a.homes
content a the.ActionNames = Names a.action_names
content a the.StmtFirsts = Numbers a.stmt_firsts
content a the.StmtCounts = Numbers a.stmt_counts
content a the.StmtKinds = Numbers a.stmt_kinds
content a the.StmtOuter = Numbers a.stmt_outer
content a the.StmtArgs = Numbers a.stmt_args
content a the.StmtBases = Numbers a.stmt_bases
content a the.CondNames = Names a.cond_names
content a the.EntryNames = Names a.entry_names
content a the.EntryStates = Numbers a.entry_states

-- a number that is printed fits 64 bits
abbrev pub IsPrintedNumber : ℤ → Type 0
IsPrintedNumber n = FitsSigned w64 n

-- a name that is printed in an array: the empty one, a name, or `@` and its numbers
abbrev pub is_printed_name : List ℕ → Bool
is_printed_name name = bytes_eq [] name || is_action_name name

abbrev pub IsPrintedName : List ℕ → Type 0
IsPrintedName name = IsTrue (is_printed_name name)

abbrev pub Fits : Content → Type 0
Fits (Numbers ns) = AllByRecursion IsPrintedNumber ns
Fits (Names names) = AllByRecursion IsPrintedName names

-- the entry of an entry line: its name and the number of its state
abbrev pub IsPrintedEntry : List ℕ × ℤ → Type 0
IsPrintedEntry entry = IsTrue (is_name entry.0) × IsPrintedNumber entry.1

-- the numbers of arrays fit their type
abbrev pub AreNumbers : Content → Type 0
AreNumbers (Numbers ns) = AllByRecursion IsPrintedNumber ns
AreNumbers (Names names) = Unit {0}

pub record HasNumbers (a : Arrays) : Type 0 where
  pub start : IsPrintedNumber a.start
  pub first_final : IsPrintedNumber a.first_final
  pub alphabet : IsPrintedNumber a.alphabet
  pub arrays : (array : ArrayName) → AreNumbers (content a array)

-- what a section says can be printed: its version is one that there is, and only one that shares cells has uses; its numbers fit 64 bits, and
-- its names are names
pub record IsPrintable (a : Arrays) (lines : List (List ℕ × ℤ)) : Type 0 where
  pub version : IsVersioned a
  pub uses : shares a ≡ false → a.cell_uses ≡ []
  pub name : IsTrue (is_name a.name)
  pub start : IsPrintedNumber a.start
  pub first_final : IsPrintedNumber a.first_final
  pub alphabet : IsPrintedNumber a.alphabet
  pub entries : AllByRecursion IsPrintedEntry lines
  pub arrays : (array : ArrayName) → Fits (content a array)
