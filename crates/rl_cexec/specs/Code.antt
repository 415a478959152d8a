-- The code of an action as it is printed: its words are replaced outside strings, character literals and comments (the guide's
-- sections 3.4 and 6.1 to 6.3).
use Rattle.std.specs.Prelude.{ℕ, ◌+◌, ◌-◌, Bool, true, not, ◌&&◌, ◌==◌, if◌then◌else◌, ℤ, pos, List, [], ◌∷◌, ◌++◌, length, take, drop, position, slice_get, unwrap_or, option_and_then, codes}
use Rattle.std.specs.Option.{option_map_or}
use Rattle.std.specs.List.{prefix_len}
use Rattle.std.specs.Str.{bytes_eq}
use Rattle.std.specs.Fmt.{signed_decimal}
use Rattle.rl_run.specs.declared.statements.StatementKind.{StatementKind}
use Rattle.rl_run.specs.declared.statements.StatementKind.TheVariants as kind
use Rattle.rl_arrays.specs.declared.arrays.Arrays.{Arrays}
use Rattle.rl_lexical.specs.declared.mode.Mode.{Mode}
use Rattle.rl_lexical.specs.declared.mode.Mode.TheVariants as m
use Rattle.rl_lexical.specs.Bytes.{semicolon, in_word}
use Rattle.rl_lexical.specs.Modes.{mode_behind}
use Rattle.rl_code.specs.declared.word.CodeWord.{CodeWord}
use Rattle.rl_code.specs.declared.word.CodeWord.TheVariants as w
use Rattle.rl_code.specs.Texts.{is_outside, first_word, behind_word, behind_blanks}
use Rattle.rl_code.specs.Forms.{code_word}
use Rattle.rl_model.specs.declared.spec.ActionDef.{ActionDef}
use Rattle.rl_model.specs.declared.spec.Frame.{Frame}
use Rattle.rl_cexec.specs.Names.{filled}

-- ---- code that is replaced

-- what is printed at a byte of code, and how many bytes behind it stand for no more than that
pub record Turn : Type 0 where
  pub text : List ℕ
  pub skip : ℕ

-- the byte itself
abbrev pub as_it_stands : List ℕ → Turn
as_it_stands text = record { text = take 1 text; skip = 0 }

-- at a byte: a word of code begins outside strings, character literals and comments, where no letter, digit or `_` is before it
unfoldable pub turn : (CodeWord → List ℕ → Turn) → ℕ → Bool → Mode → List ℕ → Turn
turn of_word skip fresh mode text =
    if skip == 0
    then (if fresh && is_outside mode then option_map_or (λ word. of_word word text) (code_word (first_word text)) (as_it_stands text) else as_it_stands text)
    else record { text = []; skip = skip - 1 }

-- the code from here on, of which so many bytes are replaced already
unfoldable pub code_from : (CodeWord → List ℕ → Turn) → ℕ → Bool → Mode → List ℕ → List ℕ
code_from of_word skip fresh mode [] = []
code_from of_word skip fresh mode (b ∷ bs) =
    (turn of_word skip fresh mode (b ∷ bs)).text
    ++ code_from of_word (turn of_word skip fresh mode (b ∷ bs)).skip (not (in_word b)) (mode_behind mode b) bs

-- ---- values

-- the state of the entry of a name
abbrev pub state_named : Arrays → List ℕ → ℤ
state_named a name = unwrap_or (option_and_then (slice_get a.entry_states) (position (bytes_eq name) a.entry_names)) (pos 0)

-- the name in the parentheses behind a word
abbrev pub name_behind : List ℕ → List ℕ
name_behind text = first_word (behind_blanks (drop 1 (behind_blanks (behind_word text))))

-- how many bytes stand before the first `)`
abbrev pub up_to_parenthesis : List ℕ → ℕ
up_to_parenthesis text = prefix_len (λ b. not (b == 41)) text

-- a text in place of the word that the text begins with, behind a blank
abbrev pub in_place : List ℕ → List ℕ → Turn
in_place text printed = record { text = codes " " ++ printed; skip = length (first_word text) - 1 }

-- a word that is a value; another one stands as it is
abbrev pub value : Arrays → Frame → CodeWord → List ℕ → Turn
value a frame w.Position text = in_place text (filled a.name frame (codes "p"))
value a frame w.Character text = in_place text (filled a.name frame (codes "(*p)"))
value a frame w.Entry text = record { text = codes " " ++ signed_decimal (state_named a (name_behind text)); skip = up_to_parenthesis text }
value a frame (w.Control k) text = as_it_stands text
value a frame w.LeftOut text = as_it_stands text

-- code in which only the values are replaced
abbrev pub values_text : Arrays → Frame → List ℕ → List ℕ
values_text a frame code = code_from (value a frame) 0 true (m.Code 0) code

-- ---- statements

-- how many bytes stand before the first `;` outside strings, character literals and comments
unfoldable pub goal_len : Mode → List ℕ → ℕ
goal_len mode [] = 0
goal_len mode (b ∷ bs) = if is_outside mode && b == semicolon then 0 else 1 + goal_len (mode_behind mode b) bs

-- what stands between the word of a statement and its `;`
abbrev pub goal : List ℕ → List ℕ
goal text = take (goal_len (m.Code 0) (behind_word text)) (behind_word text)

-- the state of the entry that a statement names
abbrev pub target : Arrays → List ℕ → List ℕ
target a goal = signed_decimal (state_named a (first_word (behind_blanks goal)))

-- the end of a text that leaves the list: the end-of-file list leaves the run
abbrev pub leave : Bool → List ℕ
leave at_end = if at_end then codes "; goto _out;}" else codes "; goto _again;}"

-- what a statement prints, by what stands before its `;`
abbrev pub statement_text : Arrays → Frame → Bool → StatementKind → List ℕ → List ℕ
statement_text a frame at_end kind.Hold goal = if at_end then codes ";" else filled a.name frame (codes "p--;")
statement_text a frame at_end kind.Exec goal =
    if at_end then codes ";" else filled a.name frame (codes "{p = (") ++ (values_text a frame goal ++ codes ") - 1;}")
statement_text a frame at_end kind.Goto goal = filled a.name frame (codes "{cs = ") ++ (target a goal ++ leave at_end)
statement_text a frame at_end kind.Call goal = filled a.name frame (codes "{stack[top++] = cs; cs = ") ++ (target a goal ++ leave at_end)
statement_text a frame at_end kind.Ret goal = filled a.name frame (codes "{cs = stack[--top]") ++ leave at_end
statement_text a frame at_end kind.Next goal = filled a.name frame (codes "cs = ") ++ (target a goal ++ codes ";")
statement_text a frame at_end kind.Break goal = if at_end then codes "{goto _out;}" else filled a.name frame (codes "{p++; goto _out;}")

-- a word that begins a statement, or is a value
abbrev pub statement_or_value : Arrays → Frame → Bool → CodeWord → List ℕ → Turn
statement_or_value a frame at_end (w.Control k) text =
    record { text = codes " " ++ statement_text a frame at_end k (goal text); skip = length (first_word text) + length (goal text) }
statement_or_value a frame at_end w.Entry text = value a frame w.Entry text
statement_or_value a frame at_end w.Position text = value a frame w.Position text
statement_or_value a frame at_end w.Character text = value a frame w.Character text
statement_or_value a frame at_end w.LeftOut text = value a frame w.LeftOut text

-- ---- actions and conditions

-- the code of an action with its braces; in the end-of-file list its statements move nothing
abbrev pub written_code : Arrays → Frame → Bool → List ℕ → List ℕ
written_code a frame at_end [] = []
written_code a frame at_end (b ∷ bs) = b ∷ code_from (statement_or_value a frame at_end) 0 true (m.Code 0) bs

-- the text of an action
abbrev pub action_text : ActionDef → Arrays → Frame → Bool → List ℕ
action_text action a frame at_end = written_code a frame at_end action.code

-- the code of a condition, without its braces
abbrev pub condition_text : Arrays → Frame → List ℕ → List ℕ
condition_text a frame code = values_text a frame (take (length code - 2) (drop 1 code))
