-- What is said of an element of each array. Of an element that is not there nothing is said.
use Rattle.std.specs.Prelude.{◌≡◌, ◌≢◌, ℕ, ◌^◌, ◌<◌, ◌≤◌, Bool, IsTrue, ℤ, pos, ◌+ℤ◌, ◌≤ℤ◌, ◌<ℤ◌, List, [], Option, Some, IfSome, length, slice_get, take, drop, option_and_then, codes, unwrap_or}
use Rattle.std.specs.List.{Contains, position}
use Rattle.std.specs.Str.{bytes_eq}
use Rattle.rl_arrays.specs.declared.arrays.Arrays.{Arrays}
use Rattle.rl_arrays.specs.declared.arrays.ArrayName.{ArrayName}
use Rattle.rl_arrays.specs.declared.arrays.ArrayName.TheVariants as the
use Rattle.rl_arrays.specs.Words.{natural, number_at, IfAt, IsAt, IsBetween, sum_before}
use Rattle.rl_arrays.specs.Names.{is_name, is_action_name}
use Rattle.rl_arrays.specs.Lists.{left_at, IsList, members}
use Rattle.rl_arrays.specs.Statements.{kind_of, names_entry, outer_kinds, up_to_end}
use Rattle.rl_arrays.specs.Sizes.{states, conditions, keys_of, uses_of, entries_of, statements_of, uses_end, shared_cells, cells_end, entries_end, IsClosing, IsEntryOf}
use Rattle.rl_arrays.specs.KeyRules.{KeySays}

-- the number is that of an action, a state, an entry
abbrev pub IsAction : Arrays → ℤ → Type 0
IsAction a n = (pos 1 ≤ℤ n) × (n <ℤ pos (length a.action_names))

abbrev pub IsState : Arrays → ℤ → Type 0
IsState a n = (pos 0 ≤ℤ n) × (n <ℤ pos (states a))

abbrev pub IsEntry : Arrays → ℤ → Type 0
IsEntry a n = (pos 1 ≤ℤ n) × (n <ℤ pos (length a.entry_names))

-- the state has one of these kinds
abbrev pub HasKind : Arrays → ℕ → ℕ → ℕ → Type 0
HasKind a s low high = IsAt a.state_kinds s (IsBetween low high)

-- its kind, if it is there, is one of these
abbrev pub MayHaveKind : Arrays → ℕ → ℕ → ℕ → Type 0
MayHaveKind a s low high = IfAt a.state_kinds s (IsBetween low high)

-- the number is the sum of the widths before
abbrev pub IsSum : (ℕ → Option ℤ) → ℕ → ℤ → Type 0
IsSum width i n = IfSome (sum_before width i) (λ sum. n ≡ sum)

-- an element of `actions`: a length where no member is to come, else a member
pub record ActionSays (a : Arrays) (place : ℕ) (n : ℤ) : Type 0 where
  pub empty : place ≡ 0 → n ≡ pos 0
  pub count : left_at a.actions place ≡ 0 → pos 0 ≤ℤ n
  pub member : 0 < left_at a.actions place → IsAction a n

-- a number of single keys, or of ranges: Error and the states of kind 4 have none
pub record LengthSays (a : Arrays) (s : ℕ) (n : ℤ) : Type 0 where
  pub positive : pos 0 ≤ℤ n
  pub error : s ≡ 0 → n ≡ pos 0
  pub closed : HasKind a s 4 4 → n ≡ pos 0

-- a use is of a cell that there is
pub record UseSays (a : Arrays) (place : ℕ) (cell : ℤ) : Type 0 where
  pub closing : IsClosing (uses_end a) place → cell ≡ pos 0
  pub positive : pos 0 ≤ℤ cell
  pub known : (IsClosing (uses_end a) place → ⊥) → cell <ℤ pos (shared_cells a)

-- the asked conditions of a cell exist
pub record AskSays (a : Arrays) (c : ℕ) (asks : ℤ) : Type 0 where
  pub closing : IsClosing (cells_end a) c → asks ≡ pos 0
  pub positive : pos 0 ≤ℤ asks
  pub known : natural asks < 2 ^ conditions a

pub record CellEntrySays (a : Arrays) (c : ℕ) (place : ℤ) : Type 0 where
  pub closing : IsClosing (cells_end a) c → place ≡ pos 0
  pub sum : (IsClosing (cells_end a) c → ⊥) → IsSum (entries_of a) c place

-- a target of a state: plain states lead to plain ones, scanners' to those inside with the same home
pub record TargetOf (a : Arrays) (s : ℕ) (target : ℤ) : Type 0 where
  pub plain : HasKind a s 0 0 → MayHaveKind a (natural target) 0 0
  pub inner : HasKind a s 1 3 → target ≢ pos 0 → MayHaveKind a (natural target) 2 4
  pub home : HasKind a s 1 3 → target ≢ pos 0 → IfAt a.homes s (λ home. IfAt a.homes (natural target) (λ other. other ≡ home))

pub record TargetSays (a : Arrays) (e : ℕ) (target : ℤ) : Type 0 where
  pub closing : IsClosing (entries_end a) e → target ≡ pos 0
  pub state : IsState a target
  pub kinds : (s : ℕ) → IsEntryOf a s e → TargetOf a s target

pub record StepListSays (a : Arrays) (e : ℕ) (number : ℤ) : Type 0 where
  pub closing : IsClosing (entries_end a) e → number ≡ pos 0
  pub list : IsList a.actions number
  pub stays : slice_get a.trans_targs e ≡ Some (pos 0) → number ≡ pos 0

-- a from-state or to-state list
pub record ListSays (a : Arrays) (s : ℕ) (number : ℤ) : Type 0 where
  pub list : IsList a.actions number
  pub error : s ≡ 0 → number ≡ pos 0

-- an end-of-file or error list: plain states alone have one
pub record EndListSays (a : Arrays) (s : ℕ) (number : ℤ) : Type 0 where
  pub list : IsList a.actions number
  pub error : s ≡ 0 → number ≡ pos 0
  pub scanner : HasKind a s 1 4 → number ≡ pos 0

-- a token's list: the final states of a scanner alone have one
pub record TokenListSays (a : Arrays) (s : ℕ) (number : ℤ) : Type 0 where
  pub list : IsList a.actions number
  pub error : s ≡ 0 → number ≡ pos 0
  pub match : number ≢ pos 0 → MayHaveKind a s 3 4

pub record KindSays (a : Arrays) (s : ℕ) (kind : ℤ) : Type 0 where
  pub known : IsBetween 0 4 kind
  pub error : s ≡ 0 → kind ≡ pos 0
  pub start : kind ≡ pos 1 → a.first_final ≤ℤ pos s
  pub inner : pos 2 ≤ℤ kind → pos s <ℤ a.first_final

-- the state is a scanner's start and its own home
pub record IsHome (a : Arrays) (home : ℤ) : Type 0 where
  pub state : IsState a home
  pub start : MayHaveKind a (natural home) 1 1
  pub own : IfAt a.homes (natural home) (λ other. other ≡ home)

pub record HomeSays (a : Arrays) (s : ℕ) (home : ℤ) : Type 0 where
  pub plain : HasKind a s 0 0 → home ≡ pos 0
  pub scanner : HasKind a s 1 4 → IsHome a home

-- a name of a form, and no earlier one; element 0 is empty
pub record NameSays (is_formed : List ℕ → Bool) (names : List (List ℕ)) (i : ℕ) (name : List ℕ) : Type 0 where
  pub empty : i ≡ 0 → name ≡ []
  pub formed : 0 < i → IsTrue (is_formed name)
  pub new : (k : ℕ) → k < i → slice_get names k ≢ Some name

-- statements are numbered from 1
pub record FirstSays (a : Arrays) (k : ℕ) (place : ℤ) : Type 0 where
  pub none : k ≡ 0 → place ≡ pos 0
  pub sum : 0 < k → IfSome (sum_before (statements_of a) k) (λ sum. place ≡ sum +ℤ pos 1)

-- the action stands in the list of element i
abbrev pub IsListed : Arrays → List ℤ → ℕ → ℕ → Type 0
IsListed a numbers i k = IsAt numbers i (λ number. Contains (members a.actions (natural number)) k)

-- lists that move nothing have no action with statements: from-state and to-state lists, and those of steps inside a scanner
pub record CountSays (a : Arrays) (k : ℕ) (count : ℤ) : Type 0 where
  pub positive : pos 0 ≤ℤ count
  pub none : k ≡ 0 → count ≡ pos 0
  pub from : (s : ℕ) → IsListed a a.from_lists s k → count ≡ pos 0
  pub to : (s : ℕ) → IsListed a a.to_lists s k → count ≡ pos 0
  pub inner : (s e : ℕ) → IsEntryOf a s e → HasKind a s 1 3 → IsListed a a.trans_lists e k → count ≡ pos 0
  pub few : let first = number_at a.stmt_firsts k in
      length (up_to_end (outer_kinds (take (natural count) (drop first a.stmt_kinds)) (take (natural count) (drop first a.stmt_outer)))) ≤ 4

pub record StatementSays (a : Arrays) (i : ℕ) (kind : ℤ) : Type 0 where
  pub none : i ≡ 0 → kind ≡ pos 0
  pub known : 0 < i → IsBetween 1 7 kind

pub record MarkSays (a : Arrays) (i : ℕ) (mark : ℤ) : Type 0 where
  pub none : i ≡ 0 → mark ≡ pos 0
  pub known : IsBetween 0 1 mark

pub record ArgumentSays (a : Arrays) (i : ℕ) (argument : ℤ) : Type 0 where
  pub none : i ≡ 0 → argument ≡ pos 0
  pub entry : IfSome (option_and_then kind_of (slice_get a.stmt_kinds i)) (λ kind. IsTrue (names_entry kind) → IsEntry a argument)

pub record BaseSays (a : Arrays) (i : ℕ) (base : ℤ) : Type 0 where
  pub none : i ≡ 0 → base ≡ pos 0
  pub known : IsBetween 0 3 base

-- the entry `main`, or the first one where none has that name
abbrev pub start_entry : Arrays → ℕ
start_entry a = unwrap_or (position (bytes_eq (codes "main")) a.entry_names) 1

-- the lines before the arrays; a state is compared only where the element that has it is there
pub record HeadRight (a : Arrays) : Type 0 where
  pub name : IsTrue (is_name a.name)
  pub start : IfAt a.entry_states (start_entry a) (λ state. a.start ≡ state)
  pub alphabet : IsBetween 0 5 a.alphabet
  pub first_final : (pos 1 ≤ℤ a.first_final) × (a.first_final ≤ℤ pos (states a))

-- an entry's state is plain or a scanner's start; what is wrong in the lines before the arrays is told at element 0
pub record EntrySays (a : Arrays) (e : ℕ) (state : ℤ) : Type 0 where
  pub none : e ≡ 0 → state ≡ pos 0
  pub head : e ≡ 0 → HeadRight a
  pub state_is : 0 < e → IsState a state
  pub alive : 0 < e → state ≢ pos 0
  pub kind : 0 < e → MayHaveKind a (natural state) 0 1

abbrev pub Says : Arrays → ArrayName → ℕ → Type 0
Says a the.Actions i = IfAt a.actions i (ActionSays a i)
Says a the.KeyOffsets i = IfAt a.key_offsets i (IsSum (keys_of a) i)
Says a the.TransKeys i = IfAt a.trans_keys i (KeySays a i)
Says a the.SingleLengths i = IfAt a.single_lengths i (LengthSays a i)
Says a the.RangeLengths i = IfAt a.range_lengths i (LengthSays a i)
Says a the.CellOffsets i = IfAt a.cell_offsets i (IsSum (uses_of a) i)
Says a the.CellUses i = IfAt a.cell_uses i (UseSays a i)
Says a the.CellAsks i = IfAt a.cell_asks i (AskSays a i)
Says a the.CellEntries i = IfAt a.cell_entries i (CellEntrySays a i)
Says a the.TransTargs i = IfAt a.trans_targs i (TargetSays a i)
Says a the.TransLists i = IfAt a.trans_lists i (StepListSays a i)
Says a the.FromLists i = IfAt a.from_lists i (ListSays a i)
Says a the.ToLists i = IfAt a.to_lists i (ListSays a i)
Says a the.EofLists i = IfAt a.eof_lists i (EndListSays a i)
Says a the.ErrorLists i = IfAt a.error_lists i (EndListSays a i)
Says a the.AcceptLists i = IfAt a.accept_lists i (TokenListSays a i)
Says a the.StateKinds i = IfAt a.state_kinds i (KindSays a i)
Says a the.Homes i = IfAt a.homes i (HomeSays a i)
Says a the.ActionNames i = IfAt a.action_names i (NameSays is_action_name a.action_names i)
Says a the.StmtFirsts i = IfAt a.stmt_firsts i (FirstSays a i)
Says a the.StmtCounts i = IfAt a.stmt_counts i (CountSays a i)
Says a the.StmtKinds i = IfAt a.stmt_kinds i (StatementSays a i)
Says a the.StmtOuter i = IfAt a.stmt_outer i (MarkSays a i)
Says a the.StmtArgs i = IfAt a.stmt_args i (ArgumentSays a i)
Says a the.StmtBases i = IfAt a.stmt_bases i (BaseSays a i)
Says a the.CondNames i = IfAt a.cond_names i (NameSays is_action_name a.cond_names i)
Says a the.EntryNames i = IfAt a.entry_names i (NameSays is_name a.entry_names i)
Says a the.EntryStates i = IfAt a.entry_states i (EntrySays a i)
