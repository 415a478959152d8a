-- The first limit in text order that an entry passes, of all machines (this profile).
use Rattle.std.specs.Prelude.{ℕ, Bool, false, ◌&&◌, if◌then◌else◌, List, [], ◌∷◌, ◌==◌, Option, Some, None, option_map}
use Rattle.std.specs.List.{flat_map}
use Rattle.rl_types.specs.declared.faults.Limit.{Limit}
use Rattle.rl_types.specs.declared.numbers.Place.{Place}
use Rattle.rl_grammar.specs.declared.read_fault.ReadFault.{ReadFault}
use Rattle.rl_grammar.specs.declared.read_fault.ReadFault.TheVariants as reason
use Rattle.rl_grammar.specs.declared.syntax.Statement.{Statement}
use Rattle.rl_grammar.specs.declared.syntax.Statement.TheVariants as statement
use Rattle.rl_grammar.specs.declared.step.Step.{Step}
use Rattle.rl_draft.specs.declared.draft.Draft.{Draft}
use Rattle.rl_rewrite.specs.Entries.{meanings, first_limit}
use Rattle.rl_names.specs.Answers.{first_of}
use Rattle.rl_names.specs.Frames.{is_of}
use Rattle.rl_resolve.specs.declared.limits.Passed.{Passed}

abbrev pub passed_as : List ℕ → Option Limit → List Passed
passed_as machine None = []
passed_as machine (Some limit) = record { machine = machine; limit = limit } ∷ []

-- the first limit that the entries of a machine pass
abbrev pub passed_by : Draft → List Passed
passed_by draft = passed_as draft.machine (first_limit [] (meanings draft))

-- those of all machines
abbrev pub passed : List Draft → List Passed
passed drafts = flat_map passed_by drafts

abbrev pub same_place : Place → Place → Bool
same_place p q = (p.file == q.file) && (p.line == q.line) && (p.col == q.col)

-- the statement defines the name that stands there
abbrev pub is_defined_at : Place → Statement → Bool
is_defined_at place (statement.Definition d) = same_place d.name.place place
is_defined_at place _ = false

-- the limit stands at this statement
abbrev pub limit_at : Step → Passed → Option Limit
limit_at s p = if is_of p.machine s && is_defined_at p.limit.place s.statement then Some p.limit else None

-- the first of some limits in text order
abbrev pub first_in_text : List Step → List Passed → Option Limit
first_in_text steps all = first_of (λ s. first_of (limit_at s) all) steps

abbrev pub limit_fault : List Step → List Passed → Option ReadFault
limit_fault steps all = option_map (λ limit. reason.Limit limit) (first_in_text steps all)
