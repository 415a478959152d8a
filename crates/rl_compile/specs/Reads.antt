-- What the steps from a source to its Specs and sections come to; for the clauses of code alone.
use Rattle.std.specs.Prelude.{◌≡◌, ℕ, Bool, true, false, List, map, Option, Some, None, Result, Ok, Err}
use Rattle.rl_io.specs.Outside.{Held, Rose, Reads, Lacks, Writes, KeepsOthers}
use Rattle.rl_arrays.specs.declared.arrays.Arrays.{Arrays}
use Rattle.rl_lexical.specs.Parts.{file_parts}
use Rattle.rl_lexical.specs.declared.part.Part.{Part}
use Rattle.rl_model.specs.RefusedNode.{IsBuildable}
use Rattle.rl_printed.specs.Printed.{printed, marking}
use Rattle.rl_printed.specs.Reading.{AreHosts, AreSound, AreWithin}
use Rattle.rl_ends.specs.declared.refusal.Refusal.{Refusal}
use Rattle.rl_ends.specs.declared.refusal.Refusal.TheVariants as refusals
use Rattle.rl_words.specs.Compiles.{Compile}
use Rattle.rl_words.specs.Told.{compile_told}
use Rattle.rl_words.specs.declared.compiles.CompileWords.{CompileWords}
use Rattle.rl_words.specs.declared.fault.WordsFault.{WordsFault}
use Rattle.rl_words.specs.declared.fault.WordsFault.TheVariants as words_fault
use Rattle.rl_grammar.specs.declared.read_fault.ReadFault.{ReadFault}
use Rattle.rl_grammar.specs.declared.read_fault.ReadFault.TheVariants as reason
use Rattle.rl_automata.specs.Refused.{Cause}
use Rattle.rl_model.specs.declared.spec.Spec.{Spec}
use Rattle.rl_build.specs.declared.fault.BuildRefusal.{BuildRefusal}
use Rattle.rl_build.specs.Trees.{cause_of}
use Rattle.rl_includes.specs.declared.unrolled.Stop.{Stop}
use Rattle.rl_resolve.specs.declared.answer.ResolveFault.{ResolveFault}
use Rattle.rl_resolve.specs.declared.answer.ResolveFault.TheVariants as refusal
use Rattle.rl_resolve.specs.declared.answer.Runs.{Runs}
use Rattle.rl_resolve.specs.Refusals.{file_name}
use Rattle.rl_compile.specs.Sources.{Says, IsToldAs, IsUnbuilt}
use Rattle.rl_compile.specs.Sections.{Because, RefusesSpecs, IsMadeFor}
use Rattle.rl_compile.specs.Printing.{is_built}
use Rattle.rl_compile.specs.Compiles.{Outside, IsWritten, EndsAsked, asked}
use Rattle.rl_compile.specs.declared.fault.CompileFault.{CompileFault}
use Rattle.rl_compile.specs.declared.fault.CompileFault.TheVariants as faults

-- the text under a name, or why there is none
abbrev pub ReadsText : Held → List ℕ → ℕ → ℕ → Result (List ℕ) CompileFault → Type 0
ReadsText held name before now (Ok text) = Reads held name text × (now ≡ before)
ReadsText held name before now (Err (faults.Missing file)) = Lacks held name × (file ≡ name) × (now ≡ before)
ReadsText held name before now (Err (faults.StoreFailed file)) = Rose before now × (file ≡ name)
ReadsText held name before now (Err faults.Memory) = Unit {0}
ReadsText held name before now (Err _) = ⊥

-- the Specs of a text that a file holds, or why it has none
abbrev pub ReadsSpecs : Held → List ℕ → Runs → List ℕ → ℕ → ℕ → Result (List Spec) CompileFault → Type 0
ReadsSpecs held name which text before now (Ok specs) = Says held name which text specs × (now ≡ before)
ReadsSpecs held name which text before now (Err e) = Because (RefusesSpecs held name which before now) e

-- the Specs of a file with its text, or why it has none
abbrev pub ReadsSource : Held → List ℕ → Runs → ℕ → ℕ → Result (List ℕ × List Spec) CompileFault → Type 0
ReadsSource held name which before now (Ok read) = Says held name which read.0 read.1 × (now ≡ before)
ReadsSource held name which before now (Err e) = Because (RefusesSpecs held name which before now) e

-- how the refusal of a text is told
abbrev pub told_by_text : ReadFault → List ℕ → CompileFault
told_by_text (reason.Fault fault) file = faults.Fault fault file
told_by_text (reason.Limit limit) file = faults.Limit limit file
told_by_text reason.Memory file = faults.Memory

-- how a refusal of statements is told
abbrev pub told_by_names : ResolveFault → CompileFault
told_by_names (refusal.Fault fault file) = faults.Fault fault file
told_by_names (refusal.Limit limit file) = faults.Limit limit file
told_by_names (refusal.Missing file) = faults.Missing file
told_by_names (refusal.StoreFailed file) = faults.StoreFailed file
told_by_names refusal.Memory = faults.Memory

-- how a refused node is told, or want of memory
abbrev pub TellsNode : List (List ℕ) → BuildRefusal → CompileFault → Type 0
TellsNode files r faults.Memory = Unit {0}
TellsNode files r e =
    (cause : Cause) × (cause_of r.fault ≡ Some cause) × Because (IsToldAs cause r.place (file_name files r.place.file)) e

-- ---- what is printed

-- the tables of a machine, where they are built
abbrev pub HasTablesAlone : Spec → Option Arrays → Type 0
HasTablesAlone spec (Some a) = (is_built spec ≡ true) × IsBuildable spec × IsMadeFor spec a
HasTablesAlone spec None = is_built spec ≡ false

-- it is built, and a node of it is refused
abbrev pub IsUnbuiltAlone : Spec → Stop → Type 0
IsUnbuiltAlone spec s = (is_built spec ≡ true) × IsUnbuilt spec s

-- the text is printed for these parts, and only its sections begin as a section does
pub record PrintsWhole (parts : List Part) (specs : List Spec) (tables : List (Option Arrays)) (bytes : List ℕ)
    : Type 0 where
  pub hosts : AreHosts parts
  pub sound : AreSound specs tables
  pub within : AreWithin parts specs
  pub is : bytes ≡ printed parts specs tables

-- the same of the parts of a text
pub record PrintsParts (marked : Bool) (text : List ℕ) (specs : List Spec) (tables : List (Option Arrays)) (bytes : List ℕ)
    : Type 0 where
  pub parts : List Part
  pub parted : file_parts 0 text ≡ Ok parts
  pub whole : PrintsWhole parts (map (marking marked) specs) tables bytes

-- ---- how a compilation ends

-- the printed file is written, or why not
abbrev pub WritesOut : Held → Held → List ℕ → List ℕ → ℕ → ℕ → Result (Unit {0}) CompileFault → Type 0
WritesOut held left name bytes before now (Ok done) =
    Writes held left name bytes × KeepsOthers held left name × (now ≡ before)
WritesOut held left name bytes before now (Err (faults.StoreFailed file)) =
    (file ≡ name) × KeepsOthers held left name × Rose before now
WritesOut held left name bytes before now (Err faults.Memory) = left ≡ held
WritesOut held left name bytes before now (Err _) = ⊥

-- how the refusal of a source ends a compilation
abbrev pub refusal_by : CompileFault → Refusal
refusal_by (faults.Fault fault file) = refusals.Fault fault file
refusal_by (faults.Limit limit file) = refusals.Limit limit file
refusal_by (faults.Missing file) = refusals.Missing file
refusal_by (faults.StoreFailed file) = refusals.StoreFailed file
refusal_by faults.Memory = refusals.Memory

-- how a compilation ends that is asked for
abbrev pub EndsCompiling : Outside → Compile → Result (Unit {0}) CompileFault → Type 0
EndsCompiling o c (Ok done) = IsWritten o c
EndsCompiling o c (Err e) = EndsAsked {T = Unit {0}} o c (Err (refusal_by e))

-- what the words ask for, or that they ask for nothing
abbrev pub Asks : List (List ℕ) → Result CompileWords WordsFault → Type 0
Asks words (Ok c) = asked words ≡ Some (compile_told c)
Asks words (Err words_fault.Usage) = asked words ≡ None
Asks words (Err words_fault.Memory) = Unit {0}
