-- Code that is read, with its control statements, and the first words of a code that stand where they may not.
use Rattle.std.specs.Prelude.{◌≡◌, ℕ, ◌+◌, Bool, true, false, ◌&&◌, ◌==◌, if◌then◌else◌, IsTrue, List, [], ◌∷◌, map, filter, length, drop, Option, Some, None, is_some, All, position, slice_get}
use Rattle.std.specs.Option.{option_map, option_and_then, option_map_or}
use Rattle.std.specs.List.{cons_option}
use Rattle.std.specs.Str.{bytes_eq}
use Rattle.rl_types.specs.Limits.{most_outer_statements}
use Rattle.rl_types.specs.declared.numbers.EntryId.{EntryId}
use Rattle.rl_run.specs.declared.statements.Statement.{Statement}
use Rattle.rl_lexical.specs.declared.mode.Mode.TheVariants as m
use Rattle.rl_lexical.specs.Bytes.{begins, open_brace}
use Rattle.rl_lexical.specs.Modes.{mode_after}
use Rattle.rl_arrays.specs.Statements.{ends_list}
use Rattle.rl_code.specs.declared.said.Control.{Control}
use Rattle.rl_code.specs.declared.said.Said.{Said}
use Rattle.rl_code.specs.declared.said.Saying.{Saying}
use Rattle.rl_code.specs.declared.said.Saying.TheVariants as says
use Rattle.rl_code.specs.Sayings.{sayings}

-- ---- a block of C: from its brace to the one that matches

pub record IsBlock (code : List ℕ) : Type 0 where
  pub opens : IsTrue (begins (λ b. b == open_brace) code)
  pub closes : mode_after (m.Code 0) (drop 1 code) ≡ m.Complete

-- ---- statements

abbrev pub control_of : Said → Option Control
control_of s = of s.saying
  where
    of : Saying → Option Control
    of (says.Control c) = Some c
    of _ = None

-- the control statements, in text order
abbrev pub controls : List Said → List Control
controls [] = []
controls (s ∷ ss) = cons_option (control_of s) (controls ss)

-- the number of the entry of this name, from 1
abbrev pub entry_named : List (List ℕ) → List ℕ → Option EntryId
entry_named entries name = option_map (λ place. record { 0 = place + 1 }) (position (bytes_eq name) entries)

-- the statement that names one of these entries
abbrev pub statement_of : List (List ℕ) → Control → Statement
statement_of entries c = record { kind = c.kind; outer = c.outer; entry = option_and_then (entry_named entries) c.target; base = c.base; offset = c.offset }

-- the statements of a code among these entries
abbrev pub statements_in : List (List ℕ) → List ℕ → List Statement
statements_in entries code = map (statement_of entries) (controls (sayings code))

-- ---- names

-- the entry that a word names
abbrev pub entry_of : Said → Option (List ℕ)
entry_of s = of s.saying
  where
    of : Saying → Option (List ℕ)
    of (says.Control c) = c.target
    of (says.Entry name) = Some name
    of _ = None

-- it names none, or one of these
abbrev pub names_one_of : List (List ℕ) → Said → Bool
names_one_of entries s = one (entry_of s)
  where
    one : Option (List ℕ) → Bool
    one None = true
    one (Some name) = is_some (entry_named entries name)

-- ---- words that stand where they may not

abbrev pub is_misplaced : Said → Bool
is_misplaced s = of s.saying
  where
    of : Saying → Bool
    of says.Misplaced = true
    of _ = false

-- how many bytes stand before the first word that is misplaced
abbrev pub first_misplaced : List Said → Option ℕ
first_misplaced [] = None
first_misplaced (s ∷ ss) = if is_misplaced s then Some s.from else first_misplaced ss

-- ---- statements at the outer level

abbrev pub is_outer : Said → Bool
is_outer s = option_map_or (λ (c : Control). c.outer) (control_of s) false

abbrev pub ends : Said → Bool
ends s = option_map_or (λ (c : Control). ends_list c.kind) (control_of s) false

-- those up to the first transfer or break, with it
abbrev pub up_to_end : List Said → List Said
up_to_end [] = []
up_to_end (s ∷ ss) = if ends s then s ∷ [] else s ∷ up_to_end ss

-- how many bytes stand before the fifth of them
abbrev pub fifth_outer : List Said → Option ℕ
fifth_outer said = option_map (λ (s : Said). s.from) (slice_get (up_to_end (filter is_outer said)) most_outer_statements)

-- ---- code that is read

-- The code is a block of C in which each word has its form, each name is that of one of these entries, and these are its statements.
pub record IsReadAs (entries : List (List ℕ)) (code : List ℕ) (statements : List Statement) : Type 0 where
  pub block : IsBlock code
  pub formed : All (λ (s : Said). is_misplaced s ≡ false) (sayings code)
  pub named : All (λ (s : Said). IsTrue (names_one_of entries s)) (sayings code)
  pub says : statements ≡ statements_in entries code
