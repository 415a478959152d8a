-- What holds of the statements that codes are read as.
use Rattle.std.specs.Prelude.{◌≡◌, ◌↔◌, ℕ, ◌+◌, ◌≤◌, false, pos, if◌then◌else◌, IsTrue, IsSome, IfSome, List, [], ◌∷◌, map, filter, length, All, None}
use Rattle.rl_run.specs.declared.statements.Statement.{Statement}
use Rattle.rl_run.specs.declared.statements.StatementKind.{StatementKind}
use Rattle.rl_run.specs.declared.statements.GoalBase.TheVariants.{Unread}
use Rattle.rl_arrays.specs.Statements.{is_exec, names_entry, ends_list}
use Rattle.rl_code.specs.Sayings.{sayings}
use Rattle.rl_code.specs.Reading.{IsReadAs, fifth_outer}

-- a goal is an exec's: another statement counts from nothing and adds nothing
pub record HasOwnGoal (s : Statement) : Type 0 where
  pub base : is_exec s.kind ≡ false → s.base ≡ Unread
  pub offset : is_exec s.kind ≡ false → s.offset ≡ pos 0

-- it has an entry exactly where its kind names one
abbrev pub HasOwnEntry : Statement → Type 0
HasOwnEntry s = IsSome s.entry ↔ IsTrue (names_entry s.kind)

-- its entry is one of so many, numbered from 1
abbrev pub IsEntryAmong : ℕ → Statement → Type 0
IsEntryAmong count s = IfSome s.entry (λ e. (1 ≤ e.0) × (e.0 ≤ count))

-- those up to the first transfer or break, with it
abbrev pub up_to_end : List StatementKind → List StatementKind
up_to_end [] = []
up_to_end (k ∷ ks) = if ends_list k then k ∷ [] else k ∷ up_to_end ks

-- the kinds of the statements at the outer level, up to the first transfer or break
abbrev pub outer_kinds : List Statement → List StatementKind
outer_kinds statements = up_to_end (map (λ (s : Statement). s.kind) (filter (λ (s : Statement). s.outer) statements))

-- of statements that a code is read as: goals are those of execs
abbrev pub GoalsAreOwn : Type 0
GoalsAreOwn = (entries : List (List ℕ)) (code : List ℕ) (statements : List Statement) → IsReadAs entries code statements → All HasOwnGoal statements

-- they have entries where their kinds name one
abbrev pub EntriesAreOwn : Type 0
EntriesAreOwn = (entries : List (List ℕ)) (code : List ℕ) (statements : List Statement) → IsReadAs entries code statements → All HasOwnEntry statements

-- and these are entries of the machine
abbrev pub EntriesAreThere : Type 0
EntriesAreThere = (entries : List (List ℕ)) (code : List ℕ) (statements : List Statement) → IsReadAs entries code statements → All (IsEntryAmong (length entries)) statements

-- at most four are at the outer level where there is no fifth
abbrev pub OuterAreFew : Type 0
OuterAreFew = (entries : List (List ℕ)) (code : List ℕ) (statements : List Statement) → IsReadAs entries code statements → fifth_outer (sayings code) ≡ None → length (outer_kinds statements) ≤ 4
