-- What a replay of a script over a small source writes.
use Rattle.std.specs.Prelude.{◌≡◌, ℕ, List, [], ◌++◌, map, Result, Ok, Err, codes}
use Rattle.rl_run.specs.declared.sessions.Settings.{Settings}
use Rattle.rl_run.specs.Machine.{Machine}
use Rattle.rl_model.specs.Specification.{Specification, action_name_at}
use Rattle.rl_model.specs.Trees.{TestsOf, AreTestsHonest, tree_machine}
use Rattle.rl_model.specs.Sources.{with_stack}
use Rattle.rl_replay.specs.declared.script.Line.{Line}
use Rattle.rl_replay.specs.declared.script.ScriptFault.{ScriptFault}
use Rattle.rl_replay.specs.Sessions.{Names, script_of}
use Rattle.rl_replay.specs.Written.{written}

-- the names that a script of this source may use
abbrev pub names_of : Specification → Names
names_of source = record {
  entries = map (λ e. e.name) source.entries;
  actions = map (λ a. a.name) source.actions;
  conditions = map (action_name_at source.actions) source.conditions;
}

-- the lines of a script, if it has no fault, and what is written for them
abbrev pub lines_written : {S : Type 0} → Names → Machine S → Settings → Result (List Line) ScriptFault → List ℕ
lines_written names m settings (Ok lines) = written names m settings lines
lines_written names m settings (Err fault) = []

abbrev pub replay : (source : Specification) → TestsOf source → Settings → List ℕ → List ℕ
replay source tests settings script = lines_written (names_of source) (tree_machine source tests) settings (script_of (names_of source) script)

-- whatever honest tests the source has, the script writes these lines
abbrev pub WritesWith : Settings → Specification → List ℕ → List ℕ → Type 0
WritesWith settings source script lines = (tests : TestsOf source) → AreTestsHonest source tests → replay source tests settings script ≡ lines

-- with room for 64 on the stack
abbrev pub Writes : Specification → List ℕ → List ℕ → Type 0
Writes source script lines = WritesWith (with_stack 64) source script lines

-- the script of one session that is opened, has one piece and is ended
abbrev pub on : List ℕ → List ℕ
on text = codes "open s\npiece s \"" ++ text ++ codes "\"\nend s\n"
