-- The arrays of a small machine, and changes of them that the check refuses.
use Rattle.std.specs.Prelude.{ℕ, pos, [], ◌∷◌, codes}
use Rattle.rl_arrays.specs.declared.arrays.Arrays.{Arrays}
use Rattle.rl_arrays.specs.declared.arrays.ArrayName.{ArrayName}
use Rattle.rl_arrays.specs.declared.arrays.ArrayName.TheVariants as the
use Rattle.rl_arrays.specs.Valid.{Valid, IsBad}

-- main := 'ab' $x; : state 0 is Error, 1 the start, 3 is final; the list of x stands at place 1
abbrev pub one : Arrays
one = record {
  version = pos 1;
  name = codes "one";
  start = pos 1;
  first_final = pos 3;
  alphabet = pos 0;
  actions = pos 0 ∷ pos 1 ∷ pos 1 ∷ [];
  key_offsets = pos 0 ∷ pos 0 ∷ pos 1 ∷ pos 2 ∷ [];
  trans_keys = pos 97 ∷ pos 98 ∷ pos 0 ∷ [];
  single_lengths = pos 0 ∷ pos 1 ∷ pos 1 ∷ pos 0 ∷ [];
  range_lengths = pos 0 ∷ pos 0 ∷ pos 0 ∷ pos 0 ∷ [];
  cell_offsets = pos 0 ∷ pos 0 ∷ pos 1 ∷ pos 2 ∷ [];
  cell_uses = [];
  cell_asks = pos 0 ∷ pos 0 ∷ pos 0 ∷ [];
  cell_entries = pos 0 ∷ pos 1 ∷ pos 0 ∷ [];
  trans_targs = pos 2 ∷ pos 3 ∷ pos 0 ∷ [];
  trans_lists = pos 1 ∷ pos 1 ∷ pos 0 ∷ [];
  from_lists = pos 0 ∷ pos 0 ∷ pos 0 ∷ pos 0 ∷ [];
  to_lists = pos 0 ∷ pos 0 ∷ pos 0 ∷ pos 0 ∷ [];
  eof_lists = pos 0 ∷ pos 0 ∷ pos 0 ∷ pos 0 ∷ [];
  error_lists = pos 0 ∷ pos 0 ∷ pos 0 ∷ pos 0 ∷ [];
  accept_lists = pos 0 ∷ pos 0 ∷ pos 0 ∷ pos 0 ∷ [];
  state_kinds = pos 0 ∷ pos 0 ∷ pos 0 ∷ pos 0 ∷ [];
  homes = pos 0 ∷ pos 0 ∷ pos 0 ∷ pos 0 ∷ [];
  action_names = [] ∷ codes "x" ∷ [];
  stmt_firsts = pos 0 ∷ pos 1 ∷ [];
  stmt_counts = pos 0 ∷ pos 0 ∷ [];
  stmt_kinds = pos 0 ∷ [];
  stmt_outer = pos 0 ∷ [];
  stmt_args = pos 0 ∷ [];
  stmt_bases = pos 0 ∷ [];
  cond_names = [] ∷ [];
  entry_names = [] ∷ codes "main" ∷ [];
  entry_states = pos 0 ∷ pos 1 ∷ [];
}

abbrev pub OneIsValid : Type 0
OneIsValid = Valid one

-- the first element that is not right stands in this array, at this index
abbrev IsWrongAt : Arrays → ArrayName → ℕ → Type 0
IsWrongAt a array i = IsBad a (record { array = array; index = i })

-- the same machine, where keys share cells
abbrev pub two : Arrays
two = record one { version = pos 2; cell_uses = pos 0 ∷ pos 1 ∷ pos 0 ∷ [] }

-- there is no version 3; whatever else is wrong, this is told first
abbrev pub NoSuchVersion : Type 0
NoSuchVersion = IsWrongAt (record one { version = pos 3; actions = [] }) the.EntryStates 0

-- in version 1 there are no uses
abbrev pub UsesInVersionOne : Type 0
UsesInVersionOne = IsWrongAt (record two { version = pos 1 }) the.CellUses 0

-- there is no cell 2
abbrev pub NoSuchCell : Type 0
NoSuchCell = IsWrongAt (record two { cell_uses = pos 0 ∷ pos 2 ∷ pos 0 ∷ [] }) the.CellUses 1

-- 200 is no key of `char`
abbrev pub NoSuchKey : Type 0
NoSuchKey = IsWrongAt (record one { trans_keys = pos 97 ∷ pos 200 ∷ pos 0 ∷ [] }) the.TransKeys 1

-- there is no condition 1 to be asked
abbrev pub NoSuchCondition : Type 0
NoSuchCondition = IsWrongAt (record one { cell_asks = pos 1 ∷ pos 0 ∷ pos 0 ∷ [] }) the.CellAsks 0

-- there is no state 4
abbrev pub NoSuchState : Type 0
NoSuchState = IsWrongAt (record one { trans_targs = pos 2 ∷ pos 4 ∷ pos 0 ∷ [] }) the.TransTargs 1

-- at place 2 no list begins
abbrev pub NoListBegins : Type 0
NoListBegins = IsWrongAt (record one { trans_lists = pos 1 ∷ pos 2 ∷ pos 0 ∷ [] }) the.TransLists 1

-- three from-state lists for four states: the missing one is wrong
abbrev pub TooFewLists : Type 0
TooFewLists = IsWrongAt (record one { from_lists = pos 0 ∷ pos 0 ∷ pos 0 ∷ [] }) the.FromLists 3

-- there is no action 2
abbrev pub NoSuchAction : Type 0
NoSuchAction = IsWrongAt (record one { actions = pos 0 ∷ pos 1 ∷ pos 2 ∷ [] }) the.Actions 2

-- of four states none can be the fifth: what is wrong before the arrays is told at the first entry's element
abbrev pub FinalBehindAll : Type 0
FinalBehindAll = IsWrongAt (record one { first_final = pos 5 }) the.EntryStates 0
