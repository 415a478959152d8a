-- The words of code that are read, and the form that each has (the guide's sections 3.4 and 6.1 to 6.3, in this profile).
use Rattle.std.specs.Prelude.{ℕ, Bool, true, false, ◌&&◌, ◌==◌, nat_le, ℤ, pos, neg_ℤ, if◌then◌else◌, List, [], ◌∷◌, take, drop, Option, Some, None, codes, unwrap_or}
use Rattle.std.specs.Option.{option_map, option_and_then}
use Rattle.std.specs.List.{prefix_len}
use Rattle.std.specs.Str.{bytes_eq}
use Rattle.std.specs.Str.Parse.{digits_value}
use Rattle.rl_run.specs.declared.statements.StatementKind.{StatementKind}
use Rattle.rl_run.specs.declared.statements.StatementKind.TheVariants as kind
use Rattle.rl_run.specs.declared.statements.GoalBase.{GoalBase}
use Rattle.rl_run.specs.declared.statements.GoalBase.TheVariants as base
use Rattle.rl_arrays.specs.Names.{is_digit, is_number}
use Rattle.rl_lexical.specs.declared.mode.Mode.TheVariants as m
use Rattle.rl_code.specs.declared.word.CodeWord.{CodeWord}
use Rattle.rl_code.specs.declared.word.CodeWord.TheVariants as w
use Rattle.rl_code.specs.declared.said.Control.{Control}
use Rattle.rl_code.specs.declared.said.Saying.{Saying}
use Rattle.rl_code.specs.declared.said.Saying.TheVariants as says
use Rattle.rl_code.specs.Texts.{up_to_semicolon, first_word, behind_word, behind_blanks, are_blanks, only_name}

-- which word it is
abbrev pub code_word : List ℕ → Option CodeWord
code_word text =
    if bytes_eq text (codes "fhold") then Some (w.Control kind.Hold) else
    (if bytes_eq text (codes "fexec") then Some (w.Control kind.Exec) else
    (if bytes_eq text (codes "fgoto") then Some (w.Control kind.Goto) else
    (if bytes_eq text (codes "fcall") then Some (w.Control kind.Call) else
    (if bytes_eq text (codes "fret") then Some (w.Control kind.Ret) else
    (if bytes_eq text (codes "fnext") then Some (w.Control kind.Next) else
    (if bytes_eq text (codes "fbreak") then Some (w.Control kind.Break) else
    (if bytes_eq text (codes "fentry") then Some w.Entry else
    (if bytes_eq text (codes "fpc") then Some w.Position else
    (if bytes_eq text (codes "fc") then Some w.Character else
    (if bytes_eq text (codes "fcurs") then Some w.LeftOut else
    (if bytes_eq text (codes "ftargs") then Some w.LeftOut else None)))))))))))

-- ---- the goal of an exec

-- what a goal counts from, and what is added
pub record Goal : Type 0 where
  pub base : GoalBase
  pub offset : ℤ

-- a goal that is not read
abbrev pub unread : Goal
unread = record { base = base.Unread; offset = pos 0 }

abbrev pub base_named : List ℕ → Option GoalBase
base_named text =
    if bytes_eq text (codes "p") then Some base.P else
    (if bytes_eq text (codes "ts") then Some base.Ts else
    (if bytes_eq text (codes "te") then Some base.Te else None))

-- the number that is all of a text but blanks, in decimal without leading zeros and no greater than the limit
abbrev pub only_number : ℕ → List ℕ → Option ℕ
only_number limit text =
    if is_number (take (prefix_len is_digit (behind_blanks text)) (behind_blanks text))
    && are_blanks (drop (prefix_len is_digit (behind_blanks text)) (behind_blanks text))
    && nat_le (digits_value 10 (take (prefix_len is_digit (behind_blanks text)) (behind_blanks text))) limit
    then Some (digits_value 10 (take (prefix_len is_digit (behind_blanks text)) (behind_blanks text))) else None

-- what is added: nothing, or `+` or `-` and a number, where that fits 64 bits
abbrev pub offset_in : List ℕ → Option ℤ
offset_in [] = Some (pos 0)
offset_in (b ∷ bs) =
    if b == 43 then option_map (λ n. pos n) (only_number 9223372036854775807 bs) else
    (if b == 45 then option_map (λ n. neg_ℤ (pos n)) (only_number 9223372036854775808 bs) else None)

-- `p`, `ts` or `te`, and what is added
abbrev pub read_goal : List ℕ → Option Goal
read_goal text =
    option_and_then (λ b. option_map (λ n. record { base = b; offset = n }) (offset_in (behind_blanks (behind_word text)))) (base_named (first_word text))

-- the goal that a text is; blanks are none
abbrev pub goal_in : List ℕ → Option Goal
goal_in text = if are_blanks text then None else Some (unwrap_or (read_goal (behind_blanks text)) unread)

-- ---- statements

abbrev pub plain_control : StatementKind → Bool → Control
plain_control k outer = record { kind = k; outer = outer; target = None; base = base.Unread; offset = pos 0 }

-- the statement of a kind whose text up to its `;` this is
abbrev pub control_in : StatementKind → Bool → List ℕ → Option Control
control_in kind.Exec outer text = option_map (λ g. record { kind = kind.Exec; outer = outer; target = None; base = g.base; offset = g.offset }) (goal_in text)
control_in kind.Goto outer text = option_map (λ name. record { kind = kind.Goto; outer = outer; target = Some name; base = base.Unread; offset = pos 0 }) (only_name text)
control_in kind.Call outer text = option_map (λ name. record { kind = kind.Call; outer = outer; target = Some name; base = base.Unread; offset = pos 0 }) (only_name text)
control_in kind.Next outer text = option_map (λ name. record { kind = kind.Next; outer = outer; target = Some name; base = base.Unread; offset = pos 0 }) (only_name text)
control_in k outer text = if are_blanks text then Some (plain_control k outer) else None

-- the statement of a kind inside so many braces, with this behind its word
abbrev pub control_at : StatementKind → ℕ → List ℕ → Option Control
control_at k depth behind = option_and_then (control_in k (depth == 0)) (up_to_semicolon depth (m.Code depth) behind)

-- ---- values

-- the name in parentheses that a text begins with
abbrev pub name_in_parentheses : List ℕ → Option (List ℕ)
name_in_parentheses [] = None
name_in_parentheses (b ∷ bs) =
    if b == 40 && closes (behind_blanks (behind_word (behind_blanks bs))) then only_name (first_word (behind_blanks bs)) else None
  where
    closes : List ℕ → Bool
    closes [] = false
    closes (c ∷ cs) = c == 41

-- ---- what a word says, inside so many braces, with this behind it
abbrev pub saying_of : CodeWord → ℕ → List ℕ → Saying
saying_of (w.Control k) depth behind = unwrap_or (option_map (λ c. says.Control c) (control_at k depth behind)) says.Misplaced
saying_of w.Entry depth behind = unwrap_or (option_map (λ name. says.Entry name) (name_in_parentheses (behind_blanks behind))) says.Misplaced
saying_of w.Position depth behind = says.Position
saying_of w.Character depth behind = says.Character
saying_of w.LeftOut depth behind = says.Misplaced
