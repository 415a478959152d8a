-- The texts that `write init` and `write exec` stand for (the guide's section 5.7; their lines are this profile's).
use Rattle.std.specs.Prelude.{ℕ, ◌+◌, Bool, true, false, not, ◌||◌, ◌==◌, nat_lt, if◌then◌else◌, pos, List, [], ◌∷◌, ◌++◌, map, drop, slice_get, flat_map, Option, Some, None, unwrap_or, codes}
use Rattle.std.specs.Option.{option_map_or}
use Rattle.std.specs.List.{list_any, zip}
use Rattle.std.specs.Str.{bytes_eq}
use Rattle.std.specs.Fmt.{decimal}
use Rattle.std.specs.Ordering.{int_eq}
use Rattle.rl_types.specs.declared.numbers.Place.{Place}
use Rattle.rl_arrays.specs.declared.arrays.Arrays.{Arrays}
use Rattle.rl_arrays.specs.Words.{natural}
use Rattle.rl_arrays.specs.Lists.{members}
use Rattle.rl_lexical.specs.Bytes.{double_quote, backslash}
use Rattle.rl_model.specs.declared.spec.Root.{Root}
use Rattle.rl_model.specs.declared.spec.Root.TheVariants as root
use Rattle.rl_model.specs.declared.spec.Entry.{Entry}
use Rattle.rl_model.specs.declared.spec.ActionDef.{ActionDef}
use Rattle.rl_model.specs.declared.spec.Frame.{Frame}
use Rattle.rl_model.specs.declared.spec.Spec.{Spec}
use Rattle.rl_cexec.specs.Names.{filled}
use Rattle.rl_cexec.specs.Code.{written_code, condition_text}
use Rattle.rl_cexec.specs.declared.line.Switch.{Switch}
use Rattle.rl_cexec.specs.declared.line.Switch.TheVariants as sw
use Rattle.rl_cexec.specs.Lines.{Line, Always, IfCalls, IfScanner, IfEnding, EachCondition, Cases, init_lines, exec_lines}

-- ---- what the machine has

-- an action has an `fcall` or an `fret`
abbrev pub calls : Arrays → Bool
calls a = list_any (λ kind. int_eq kind (pos 4) || int_eq kind (pos 5)) a.stmt_kinds

abbrev pub is_scanner : Root → Bool
is_scanner (root.Plain tree) = false
is_scanner (root.Scanner patterns) = true

abbrev pub has_scanner : Spec → Bool
has_scanner spec = list_any (λ (e : Entry). is_scanner e.root) spec.entries

-- the end of the input does something: a token may be kept, or an end-of-file list is not empty
abbrev pub has_ending : Spec → Arrays → Bool
has_ending spec a = has_scanner spec || list_any (λ n. not (int_eq n (pos 0))) a.eof_lists

-- ---- actions

-- the action of a name
abbrev pub action_named : List ActionDef → List ℕ → Option ActionDef
action_named [] name = None
action_named (d ∷ ds) name = if bytes_eq d.name name then Some d else action_named ds name

-- the actions of all from-state and to-state lists
abbrev pub turn_actions : Arrays → List ℕ
turn_actions a = flat_map (λ n. members a.actions (natural n)) (a.from_lists ++ a.to_lists)

-- whether a switch has a case for an action
abbrev pub has_case : Arrays → Switch → ℕ → Bool
has_case a sw.From k = list_any (λ n. n == k) (turn_actions a)
has_case a sw.To k = list_any (λ n. n == k) (turn_actions a)
has_case a sw.Do k = true
has_case a sw.Token k = true
has_case a sw.End k = true

abbrev pub is_at_end : Switch → Bool
is_at_end sw.End = true
is_at_end _ = false

-- the name of a file between double quotes: `?` stands for what can't stand there
abbrev pub quotable : ℕ → ℕ
quotable b = if nat_lt b 32 || (b == double_quote || b == backslash) then 63 else b

abbrev pub file_text : Spec → Place → List ℕ
file_text spec place = map quotable (unwrap_or (slice_get spec.files place.file) [])

-- the line that says where an action's code stands in the source
abbrev pub mark_text : Spec → Frame → Place → List ℕ
mark_text spec frame place =
    if frame.marked then codes "#line " ++ (decimal place.line ++ (codes " \"" ++ (file_text spec place ++ codes "\"\n"))) else []

-- the case of an action's number
abbrev pub case_text : Spec → Arrays → Frame → Switch → ℕ → ActionDef → List ℕ
case_text spec a frame switch k action =
    codes "\tcase " ++ (decimal k ++ (codes ":\n" ++ (mark_text spec frame action.place ++ (written_code a frame (is_at_end switch) action.code ++ codes "\n\tbreak;\n"))))

abbrev pub case_named : Spec → Arrays → Frame → Switch → ℕ → List ℕ → List ℕ
case_named spec a frame switch k name =
    if has_case a switch k then option_map_or (case_text spec a frame switch k) (action_named spec.actions name) [] else []

-- the cases of the actions from a number on, in ascending order
abbrev pub cases_from : Spec → Arrays → Frame → Switch → ℕ → List (List ℕ) → List ℕ
cases_from spec a frame switch k [] = []
cases_from spec a frame switch k (name ∷ names) = case_named spec a frame switch k name ++ cases_from spec a frame switch (k + 1) names

-- whether the text has a switch at all
abbrev pub has_switch : Spec → Arrays → Switch → Bool
has_switch spec a sw.Token = has_scanner spec
has_switch spec a sw.End = has_ending spec a
has_switch spec a _ = true

abbrev pub cases_text : Spec → Arrays → Frame → Switch → List ℕ
cases_text spec a frame switch = if has_switch spec a switch then cases_from spec a frame switch 1 (drop 1 a.action_names) else []

-- ---- conditions

-- what a condition stands for among those that are asked
abbrev pub bits : List ℕ
bits = 1 ∷ 2 ∷ 4 ∷ 8 ∷ 16 ∷ 32 ∷ 64 ∷ 128 ∷ []

-- the line that asks a condition
unfoldable pub condition_line : Arrays → Frame → ℕ → List ℕ → List ℕ
condition_line a frame bit code =
    filled a.name frame (codes "\t\tif ( _N_cell_asks[_f] & ") ++ (decimal bit ++ (codes " ) { if ( " ++ (condition_text a frame code ++ codes " ) _e += _b; _b *= 2; }\n")))

abbrev pub condition_named : Spec → Arrays → Frame → ℕ × List ℕ → List ℕ
condition_named spec a frame c = option_map_or (λ (action : ActionDef). condition_line a frame c.0 action.code) (action_named spec.actions c.1) []

-- the lines of all conditions, in ascending order
abbrev pub conditions_text : Spec → Arrays → Frame → List ℕ
conditions_text spec a frame = flat_map (condition_named spec a frame) (zip bits (drop 1 a.cond_names))

-- ---- the texts

-- a line with its names, if it stands
abbrev pub line_if : Bool → Arrays → Frame → List ℕ → List ℕ
line_if stands a frame text = if stands then filled a.name frame text ++ codes "\n" else []

abbrev pub line_text : Spec → Arrays → Frame → Line → List ℕ
line_text spec a frame (Always text) = line_if true a frame text
line_text spec a frame (IfCalls text) = line_if (calls a) a frame text
line_text spec a frame (IfScanner text) = line_if (has_scanner spec) a frame text
line_text spec a frame (IfEnding text) = line_if (has_ending spec a) a frame text
line_text spec a frame EachCondition = conditions_text spec a frame
line_text spec a frame (Cases switch) = cases_text spec a frame switch

-- the text that sets a session to its start
unfoldable pub init_text : Spec → Arrays → Frame → List ℕ
init_text spec a frame = flat_map (line_text spec a frame) init_lines

-- the text that runs the machine
unfoldable pub exec_text : Spec → Arrays → Frame → List ℕ
exec_text spec a frame = flat_map (line_text spec a frame) exec_lines
