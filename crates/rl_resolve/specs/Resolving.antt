-- What a source comes to once its includes are read: the drafts of its machines, or the first refusal. The order of the
-- refusals is this profile's.
use Rattle.std.specs.Prelude.{ℕ, Bool, true, false, ◌&&◌, if◌then◌else◌, List, [], ◌∷◌, Option, Some, None, Result, Ok, slice_get}
use Rattle.std.specs.List.{list_any}
use Rattle.std.specs.Str.{bytes_eq}
use Rattle.rl_types.specs.declared.faults.FaultKind.{FaultKind}
use Rattle.rl_types.specs.declared.faults.FaultKind.TheVariants.{F4, F18}
use Rattle.rl_grammar.specs.declared.read_fault.ReadFault.{ReadFault}
use Rattle.rl_grammar.specs.declared.syntax.DefinitionSign.{DefinitionSign}
use Rattle.rl_grammar.specs.declared.syntax.DefinitionSign.TheVariants as sign
use Rattle.rl_grammar.specs.declared.syntax.Statement.{Statement}
use Rattle.rl_grammar.specs.declared.syntax.Statement.TheVariants as statement
use Rattle.rl_grammar.specs.declared.step.Step.{Step}
use Rattle.rl_includes.specs.declared.unrolled.Unrolled.{Unrolled}
use Rattle.rl_draft.specs.declared.draft.Draft.{Draft}
use Rattle.rl_names.specs.Answers.{or_else, first_of}
use Rattle.rl_names.specs.Checks.{leaves_fault}
use Rattle.rl_names.specs.Drafts.{drafts_of}
use Rattle.rl_names.specs.Frames.{is_of, machines_of}
use Rattle.rl_names.specs.Leaves.{fault_at}
use Rattle.rl_names.specs.Names.{names_fault}
use Rattle.rl_resolve.specs.Limits.{passed, limit_fault}
use Rattle.rl_resolve.specs.Refusals.{refused, and_then, told, read_in, stopped}
use Rattle.rl_resolve.specs.declared.answer.ResolveFault.{ResolveFault}
use Rattle.rl_resolve.specs.declared.answer.Runs.{Runs}
use Rattle.rl_resolve.specs.declared.answer.Runs.TheVariants as runs

-- at the head of the source
abbrev pub at_head : FaultKind → ReadFault
at_head kind = fault_at kind (record { file = 0; line = 1; col = 1 })

abbrev pub unless : Bool → ReadFault → Option ReadFault
unless good fault = if good then None else Some fault

-- ---- the machine that runs

abbrev pub is_among : List ℕ → List (List ℕ) → Bool
is_among name machines = list_any (bytes_eq name) machines

-- a source has a machine, and the one that is to run by its name
abbrev pub has_machine : Runs → List (List ℕ) → Bool
has_machine which [] = false
has_machine runs.Nobody (m ∷ ms) = true
has_machine runs.First (m ∷ ms) = true
has_machine (runs.Named name) (m ∷ ms) = is_among name.now (m ∷ ms)

abbrev pub machine_fault : Runs → List (List ℕ) → Option ReadFault
machine_fault which machines = unless (has_machine which machines) (at_head F4)

-- the machine that runs
abbrev pub running : Runs → List (List ℕ) → Option (List ℕ)
running runs.Nobody machines = None
running runs.First machines = slice_get machines 0
running (runs.Named name) machines = Some name.now

-- ---- instantiations

abbrev pub is_instantiation : DefinitionSign → Bool
is_instantiation (sign.Name place) = false
is_instantiation (sign.Instantiation place) = true

abbrev pub instantiates : Statement → Bool
instantiates (statement.Definition d) = is_instantiation d.sign
instantiates _ = false

abbrev pub is_instance : List ℕ → Step → Bool
is_instance machine s = is_of machine s && instantiates s.statement

-- a machine has an instantiation
abbrev pub has_instance : List Step → List ℕ → Bool
has_instance steps machine = list_any (is_instance machine) steps

-- a machine that is written has none
abbrev pub written_fault : List Step → List ℕ → Statement → Option ReadFault
written_fault steps machine (statement.Write w) = unless (has_instance steps machine) (fault_at F18 w.start)
written_fault steps machine _ = None

-- the machine that runs has none
abbrev pub running_fault : List Step → Option (List ℕ) → Option ReadFault
running_fault steps None = None
running_fault steps (Some machine) = unless (has_instance steps machine) (at_head F18)

-- the first machine that is written without one, or else the one that runs
abbrev pub instance_fault : Runs → List Step → List (List ℕ) → Option ReadFault
instance_fault which steps machines =
    or_else (first_of (λ s. written_fault steps s.machine s.statement) steps) (running_fault steps (running which machines))

-- ---- the order of refusals

-- Up to the drafts: a fault of names, with the number of names; what an include ended; a machine that is absent; a fault of
-- keys; and a machine without instantiations.
abbrev pub drafted : Runs → Unrolled → Result (List Draft) ResolveFault
drafted which u =
    refused (told u.files (names_fault u.steps))
    (refused (stopped u.stop)
    (refused (told u.files (machine_fault which (machines_of u.steps)))
    (refused (told u.files (leaves_fault u.steps))
    (refused (told u.files (instance_fault which u.steps (machines_of u.steps)))
    (read_in u.files (drafts_of u.steps))))))

-- the drafts, where their machines pass no limit
abbrev pub within : Unrolled → List Draft → Result (List Draft) ResolveFault
within u drafts = refused (told u.files (limit_fault u.steps (passed drafts))) (Ok drafts)

abbrev pub outcome : Runs → Unrolled → Result (List Draft) ResolveFault
outcome which u = and_then (drafted which u) (within u)
