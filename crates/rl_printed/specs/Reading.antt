-- Reading the sections of a printed file back.
use Rattle.std.specs.Prelude.{◌≡◌, ℕ, ◌+◌, Bool, true, false, ◌&&◌, nat_lt, if◌then◌else◌, filter, List, [], ◌∷◌, Option, Some, None, IfSome, slice_get, option_and_then, ◌≤◌, map, length}
use Rattle.std.specs.List.{list_any, list_all}
use Rattle.rl_arrays.specs.declared.arrays.Arrays.{Arrays}
use Rattle.rl_arrays.specs.Valid.{Valid}
use Rattle.rl_cread.specs.Contents.{HasNumbers}
use Rattle.rl_cread.specs.Sections.{HasNone, IsRead}
use Rattle.rl_cdata.specs.Printed.{EndsLine}
use Rattle.rl_cexec.specs.Texts.{init_text, exec_text}
use Rattle.rl_lexical.specs.declared.part.Part.{Part}
use Rattle.rl_lexical.specs.declared.part.Part.TheVariants as p
use Rattle.rl_automata.specs.Refused.{AreDifferent}
use Rattle.rl_model.specs.declared.spec.Write.{Write}
use Rattle.rl_model.specs.declared.spec.WriteKind.{WriteKind}
use Rattle.rl_model.specs.declared.spec.WriteKind.TheVariants as kind
use Rattle.rl_model.specs.declared.spec.Spec.{Spec}
use Rattle.rl_printed.specs.declared.job.Job.{Job}
use Rattle.rl_printed.specs.Jobs.{in_text_order, is_of}
use Rattle.rl_printed.specs.Printed.{printed}

-- no line of the text begins a section
abbrev pub IsQuiet : List ℕ → Type 0
IsQuiet text = HasNone None text

-- Host texts are quiet, and are whole lines where a part is behind them. Of the last part nothing is asked.
abbrev pub AreHosts : List Part → Type 0
AreHosts [] = Unit {0}
AreHosts (p.Host host ∷ []) = Unit {0}
AreHosts (p.Host host ∷ part ∷ parts) = IsQuiet host × EndsLine host × AreHosts (part ∷ parts)
AreHosts (p.Block block ∷ parts) = AreHosts parts

-- a machine's tables are valid and bear its name, and the texts beside its section are quiet
pub record IsSound (spec : Spec) (a : Arrays) : Type 0 where
  pub name : a.name ≡ spec.machine
  pub valid : Valid a
  pub numbers : HasNumbers a
  pub init : IsQuiet (init_text spec a spec.frame)
  pub exec : IsQuiet (exec_text spec a spec.frame)

-- the machine is sound with the tables that have this number, if there are any
abbrev pub IsSoundAt : Spec → List (Option Arrays) → ℕ → Type 0
IsSoundAt spec tables i = (a : Arrays) → slice_get tables i ≡ Some (Some a) → IsSound spec a

abbrev pub AreSound : List Spec → List (Option Arrays) → Type 0
AreSound specs tables = (i : ℕ) (spec : Spec) → slice_get specs i ≡ Some spec → IsSoundAt spec tables i

-- tables of one name are the same
abbrev pub AreNamed : List (Option Arrays) → Type 0
AreNamed tables = (i j : ℕ) (a b : Arrays) → slice_get tables i ≡ Some (Some a) → slice_get tables j ≡ Some (Some b) → a.name ≡ b.name → a ≡ b

-- how many blocks there are
abbrev pub blocks_in : List Part → ℕ
blocks_in [] = 0
blocks_in (p.Host host ∷ parts) = blocks_in parts
blocks_in (p.Block block ∷ parts) = blocks_in parts + 1

abbrev pub is_data : WriteKind → Bool
is_data kind.Data = true
is_data kind.Init = false
is_data kind.Exec = false

-- a machine has a `write data` in one of the first blocks
abbrev pub writes_data : ℕ → Spec → Bool
writes_data blocks spec = list_any (λ (w : Write). is_data w.kind && nat_lt w.block blocks) spec.writes

-- the tables of each machine with a `write data` in a block of the file are read from the text by their name
abbrev pub AreReadBack : List Part → List Spec → List (Option Arrays) → List ℕ → Type 0
AreReadBack parts specs tables text =
    (i : ℕ) (spec : Spec) (a : Arrays) → slice_get specs i ≡ Some spec → slice_get tables i ≡ Some (Some a) → writes_data (blocks_in parts) spec ≡ true
    → IsRead (Some a.name) text a

-- a machine has a `write data`
abbrev pub has_data : Spec → Bool
has_data spec = list_any (λ (w : Write). is_data w.kind) spec.writes

-- the statements stand in blocks with these numbers
abbrev pub are_within : ℕ → List Write → Bool
are_within blocks writes = list_all (λ (w : Write). nat_lt w.block blocks) writes

-- the statements of all machines stand in blocks of the file
abbrev pub AreWithin : List Part → List Spec → Type 0
AreWithin parts specs = (i : ℕ) (spec : Spec) → slice_get specs i ≡ Some spec → are_within (blocks_in parts) spec.writes ≡ true

-- the tables of each machine with a `write data` are read from the text by their name
abbrev pub IsEachReadBack : List Spec → List (Option Arrays) → List ℕ → Type 0
IsEachReadBack specs tables text =
    (i : ℕ) (spec : Spec) (a : Arrays) → slice_get specs i ≡ Some spec → slice_get tables i ≡ Some (Some a) → has_data spec ≡ true
    → IsRead (Some a.name) text a

-- the tables whose section a machine's statement of this number prints
abbrev pub tables_at : Spec → Option Arrays → ℕ → Option Arrays
tables_at spec None number = None
tables_at spec (Some a) number = option_and_then (λ (w : Write). if is_data w.kind then Some a else None) (slice_get spec.writes number)

-- the tables whose section a job prints
abbrev pub job_tables : List Spec → List (Option Arrays) → Job → Option Arrays
job_tables specs tables job =
    option_and_then (λ spec. option_and_then (λ a. tables_at spec a job.number) (slice_get tables job.machine)) (slice_get specs job.machine)

abbrev pub or_else : Option Arrays → Option Arrays → Option Arrays
or_else None other = other
or_else (Some a) other = Some a

abbrev pub first_of : (Job → Option Arrays) → List Job → Option Arrays
first_of of_job [] = None
first_of of_job (job ∷ jobs) = or_else (of_job job) (first_of of_job jobs)

-- the tables whose section is printed first, from this block on
abbrev pub first_from : (Job → Option Arrays) → ℕ → List Part → List Job → Option Arrays
first_from of_job block [] jobs = None
first_from of_job block (p.Host host ∷ parts) jobs = first_from of_job block parts jobs
first_from of_job block (p.Block b ∷ parts) jobs = or_else (first_of of_job (filter (is_of block) jobs)) (first_from of_job (block + 1) parts jobs)

abbrev pub first_tables : List Part → List Spec → List (Option Arrays) → Option Arrays
first_tables parts specs tables = first_from (job_tables specs tables) 0 parts (in_text_order specs)

-- The first section of a printed file is read where no machine is named.
abbrev pub FirstReadBack : Type 0
FirstReadBack =
    (parts : List Part) (specs : List Spec) (tables : List (Option Arrays)) → AreHosts parts → AreSound specs tables
    → IfSome (first_tables parts specs tables) (λ a. IsRead None (printed parts specs tables) a)

-- In a printed file the sections are read back.
abbrev pub ReadBack : Type 0
ReadBack =
    (parts : List Part) (specs : List Spec) (tables : List (Option Arrays)) → AreHosts parts → AreSound specs tables → AreNamed tables
    → AreReadBack parts specs tables (printed parts specs tables)

abbrev pub EachReadBack : Type 0
EachReadBack =
    (parts : List Part) (specs : List Spec) (tables : List (Option Arrays)) → AreHosts parts → AreSound specs tables → AreWithin parts specs → AreNamed tables
    → IsEachReadBack specs tables (printed parts specs tables)

-- the tables of each machine with a `write data` are read from the text by the machine's name
abbrev pub IsReadByMachine : List Spec → List (Option Arrays) → List ℕ → Type 0
IsReadByMachine specs tables text =
    (i : ℕ) (spec : Spec) (a : Arrays) → slice_get specs i ≡ Some spec → slice_get tables i ≡ Some (Some a) → has_data spec ≡ true
    → IsRead (Some spec.machine) text a

-- no two machines have one name
abbrev pub HaveOwnNames : List Spec → Type 0
HaveOwnNames specs = AreDifferent (map (λ (spec : Spec). spec.machine) specs)

abbrev pub MachinesReadBack : Type 0
MachinesReadBack =
    (parts : List Part) (specs : List Spec) (tables : List (Option Arrays)) → AreHosts parts → AreSound specs tables → AreWithin parts specs
    → length tables ≤ length specs → HaveOwnNames specs → IsReadByMachine specs tables (printed parts specs tables)
