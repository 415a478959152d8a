-- The actions of one machine, in the order in which their definitions, or the `{` of those without a name, are read.
use Rattle.std.specs.Prelude.{ℕ, ◌==◌, if◌then◌else◌, List, [], ◌∷◌, ◌++◌, fold, Result, Ok, Err, codes, decimal}
use Rattle.std.specs.List.{list_any}
use Rattle.std.specs.Str.{bytes_eq}
use Rattle.rl_types.specs.declared.faults.FaultKind.TheVariants.{F6}
use Rattle.rl_types.specs.declared.numbers.Place.{Place}
use Rattle.rl_grammar.specs.declared.read_fault.ReadFault.{ReadFault}
use Rattle.rl_grammar.specs.declared.syntax.Statement.{Statement}
use Rattle.rl_grammar.specs.declared.syntax.Statement.TheVariants as statement
use Rattle.rl_grammar.specs.declared.syntax.Word.{Word}
use Rattle.rl_model.specs.declared.spec.ActionDef.{ActionDef}
use Rattle.rl_code.specs.Reading.{statements_in}
use Rattle.rl_names.specs.Answers.{along}
use Rattle.rl_names.specs.Entries.{entries_of}
use Rattle.rl_names.specs.Events.{Event, value_events}
use Rattle.rl_names.specs.Events as event
use Rattle.rl_names.specs.Frames.{is_of}
use Rattle.rl_names.specs.Leaves.{fault_at}
use Rattle.rl_grammar.specs.declared.step.Step.{Step}

-- the number of a file that is not the first
abbrev pub file_part : ℕ → List ℕ
file_part file = if file == 0 then codes "@" else (codes "@" ++ decimal file) ++ codes ":"

-- an action without a name is called by the place of its `{`
abbrev pub anonymous_name : Place → List ℕ
anonymous_name p = ((file_part p.file ++ decimal p.line) ++ codes ":") ++ decimal p.col

-- an action whose code may name these entries
abbrev pub action_def : List (List ℕ) → List ℕ → Word → ActionDef
action_def entries name code = record { name = name; code = code.text; statements = statements_in entries code.text; place = code.place }

abbrev pub action_used : List (List ℕ) → List ActionDef → Event → List ActionDef
action_used entries actions (event.Code w) = actions ++ action_def entries (anonymous_name w.place) w ∷ []
action_used entries actions _ = actions

abbrev pub actions_by : List (List ℕ) → List ActionDef → Statement → List ActionDef
actions_by entries actions (statement.Action a) = actions ++ action_def entries a.name.text a.code ∷ []
actions_by entries actions (statement.Definition d) = fold (action_used entries) actions (value_events d.value)
actions_by entries actions _ = actions

abbrev pub actions_behind : List (List ℕ) → List ℕ → List ActionDef → Step → List ActionDef
actions_behind entries machine actions s = if is_of machine s then actions_by entries actions s.statement else actions

abbrev pub actions_of : List ℕ → List Step → List ActionDef
actions_of machine steps = fold (actions_behind (entries_of machine steps) machine) [] steps

-- the names of actions, each of which has its own
abbrev pub named_behind : List (List ℕ) → ActionDef → Result (List (List ℕ)) ReadFault
named_behind names a = if list_any (bytes_eq a.name) names then Err (fault_at F6 a.place) else Ok (names ++ a.name ∷ [])

abbrev pub action_names : List ActionDef → Result (List (List ℕ)) ReadFault
action_names actions = along named_behind [] actions
