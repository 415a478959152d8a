-- The control statements of actions.
use Rattle.std.specs.Prelude.{ℕ, zero, suc, ◌+◌, ◌-◌, ◌&&◌, nat_le, Bool, true, false, ℤ, pos, negsuc, List, [], ◌∷◌, Option, Some, None, slice_get, unwrap_or, option_and_then, if◌then◌else◌}
use Rattle.std.specs.Option.{option_map, option_map_or}
use Rattle.std.specs.List.{cons_option}
use Rattle.std.specs.Ordering.{int_eq}
use Rattle.rl_run.specs.declared.statements.Statement.{Statement}
use Rattle.rl_run.specs.declared.statements.StatementKind.{StatementKind}
use Rattle.rl_run.specs.declared.statements.StatementKind.TheVariants.{Hold, Exec, Goto, Call, Ret, Next, Break}
use Rattle.rl_run.specs.declared.statements.GoalBase.{GoalBase}
use Rattle.rl_run.specs.declared.statements.GoalBase.TheVariants.{Unread, P, Ts, Te}
use Rattle.rl_arrays.specs.declared.arrays.Arrays.{Arrays}
use Rattle.rl_arrays.specs.Words.{natural, number_at}

-- the kind with this number, from 1
abbrev pub kind_of : ℤ → Option StatementKind
kind_of (negsuc n) = None
kind_of (pos zero) = None
kind_of (pos (suc n)) = slice_get (Hold ∷ Exec ∷ Goto ∷ Call ∷ Ret ∷ Next ∷ Break ∷ []) n

-- what a goal with this number counts from
abbrev pub base_of : ℤ → GoalBase
base_of (negsuc n) = Unread
base_of (pos n) = unwrap_or (slice_get (Unread ∷ P ∷ Ts ∷ Te ∷ []) n) Unread

-- a statement of this kind names an entry
abbrev pub names_entry : StatementKind → Bool
names_entry Hold = false
names_entry Exec = false
names_entry Goto = true
names_entry Call = true
names_entry Ret = false
names_entry Next = true
names_entry Break = false

abbrev pub is_exec : StatementKind → Bool
is_exec Hold = false
is_exec Exec = true
is_exec Goto = false
is_exec Call = false
is_exec Ret = false
is_exec Next = false
is_exec Break = false

-- a transfer, or a break
abbrev pub ends_list : StatementKind → Bool
ends_list Hold = false
ends_list Exec = false
ends_list Goto = true
ends_list Call = true
ends_list Ret = true
ends_list Next = false
ends_list Break = true

-- the numbers of the kinds of the statements at the outer level, of statements with these kinds and outer marks; the mark alone counts
abbrev pub outer_kinds : List ℤ → List ℤ → List ℤ
outer_kinds [] marks = []
outer_kinds (k ∷ ks) [] = []
outer_kinds (k ∷ ks) (mark ∷ marks) = cons_option (if int_eq mark (pos 1) then Some k else None) (outer_kinds ks marks)

-- those up to the first transfer or break, with it
abbrev pub up_to_end : List ℤ → List ℤ
up_to_end [] = []
up_to_end (k ∷ ks) = if option_map_or ends_list (kind_of k) false then k ∷ [] else k ∷ up_to_end ks

-- the statement of a kind, with the outer mark, the argument and the base that stand at its place
abbrev pub statement_of : ℤ → ℤ → ℤ → StatementKind → Statement
statement_of mark argument base kind = record {
  kind = kind;
  outer = int_eq mark (pos 1);
  entry = if names_entry kind then Some (record { 0 = natural argument }) else None;
  base = if is_exec kind then base_of base else Unread;
  offset = if is_exec kind then argument else pos 0;
}

-- the statement at a place
abbrev pub statement_at : Arrays → ℕ → Option Statement
statement_at a place = option_map (statement_of (unwrap_or (slice_get a.stmt_outer place) (pos 0)) (unwrap_or (slice_get a.stmt_args place) (pos 0)) (unwrap_or (slice_get a.stmt_bases place) (pos 0))) (option_and_then kind_of (slice_get a.stmt_kinds place))

-- the statement of an action with this number, from 1
abbrev pub statement : Arrays → ℕ → ℕ → Option Statement
statement a action number =
    if nat_le 1 number && nat_le number (number_at a.stmt_counts action)
    then statement_at a (number_at a.stmt_firsts action + (number - 1))
    else None
