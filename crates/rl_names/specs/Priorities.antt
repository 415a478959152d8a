-- The names of the priorities of one machine.
use Rattle.std.specs.Prelude.{ℕ, if◌then◌else◌, List, [], fold}
use Rattle.rl_grammar.specs.declared.syntax.Statement.{Statement}
use Rattle.rl_grammar.specs.declared.syntax.Statement.TheVariants as statement
use Rattle.rl_names.specs.Events.{Event, value_events}
use Rattle.rl_names.specs.Events as event
use Rattle.rl_names.specs.Frames.{is_of, with_name}
use Rattle.rl_grammar.specs.declared.step.Step.{Step}

-- names of definitions, and those that stand with numbers, in order of first use

abbrev pub priority_used : List (List ℕ) → Event → List (List ℕ)
priority_used names (event.Priority w) = with_name names w.text
priority_used names _ = names

abbrev pub priorities_by : List (List ℕ) → Statement → List (List ℕ)
priorities_by names (statement.Definition d) = fold priority_used (with_name names d.name.text) (value_events d.value)
priorities_by names _ = names

abbrev pub priorities_behind : List ℕ → List (List ℕ) → Step → List (List ℕ)
priorities_behind machine names s = if is_of machine s then priorities_by names s.statement else names

abbrev pub priorities_of : List ℕ → List Step → List (List ℕ)
priorities_of machine steps = fold (priorities_behind machine) [] steps
