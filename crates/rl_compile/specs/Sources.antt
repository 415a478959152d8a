-- What a source comes to: its Specs, or why it has none (this profile).
use Rattle.std.specs.Prelude.{◌≡◌, ◌⊎◌, ℕ, List, Option, Some, None, slice_get}
use Rattle.std.specs.List.{find}
use Rattle.rl_types.specs.declared.faults.FaultKind.TheVariants.{F12, F15}
use Rattle.rl_types.specs.declared.faults.LimitKind.TheVariants.{L6, L8}
use Rattle.rl_types.specs.declared.numbers.Place.{Place}
use Rattle.rl_io.specs.Outside.{Held, Reads, Lacks}
use Rattle.rl_grammar.specs.declared.syntax.Syntax.{Syntax}
use Rattle.rl_automata.specs.Refused as cause
use Rattle.rl_automata.specs.Refused.{Cause}
use Rattle.rl_model.specs.declared.spec.Spec.{Spec}
use Rattle.rl_model.specs.RefusedNode.{IsRefusedAt, IsBuildable}
use Rattle.rl_files.specs.Files.{ReadsAs}
use Rattle.rl_includes.specs.Unrolling.{RefusedAs}
use Rattle.rl_includes.specs.declared.unrolled.Stop.{Stop}
use Rattle.rl_includes.specs.declared.unrolled.Stop.TheVariants as stop
use Rattle.rl_resolve.specs.declared.answer.Runs.{Runs}
use Rattle.rl_resolve.specs.declared.answer.Runs.TheVariants as runs
use Rattle.rl_resolve.specs.Refusals.{file_name, stopped_by}
use Rattle.rl_resolve.specs.Answers.{Resolves, Refuses, IsDue, is_running}

-- ---- Specs

-- the file under a name holds this text, which reads as these trees, one for each block
pub record HasTrees (held : Held) (name text : List ℕ) (trees : List Syntax) : Type 0 where
  pub reads : Reads held name text
  pub means : ReadsAs 0 text trees

-- the file under a name holds this text, and its trees come to these Specs, one for each machine
pub record Says (held : Held) (name : List ℕ) (which : Runs) (text : List ℕ) (specs : List Spec) : Type 0 where
  pub trees : List Syntax
  pub has : HasTrees held name text trees
  pub resolves : Resolves held name trees which specs

-- the file under a name comes to these Specs
abbrev pub HasSpecs : Held → List ℕ → Runs → List Spec → Type 0
HasSpecs held name which specs = (text : List ℕ) × Says held name which text specs

-- the machine that runs: the first, or the first of the name that has an entry
abbrev pub chosen : Runs → List Spec → Option Spec
chosen runs.Nobody specs = None
chosen runs.First specs = slice_get specs 0
chosen (runs.Named name) specs = find (is_running name.now) specs

-- the Spec of the machine that runs
pub record HasSpec (held : Held) (name : List ℕ) (which : Runs) (spec : Spec) : Type 0 where
  pub specs : List Spec
  pub has : HasSpecs held name which specs
  pub chosen : chosen which specs ≡ Some spec

-- and none of its nodes is refused
pub record HasSource (held : Held) (name : List ℕ) (which : Runs) (spec : Spec) : Type 0 where
  pub named : HasSpec held name which spec
  pub buildable : IsBuildable spec

-- ---- why there are none

-- no file has the name
abbrev pub IsAbsent : Held → List ℕ → Stop → Type 0
IsAbsent held name s = Lacks held name × (s ≡ stop.Missing name)

-- the text under the name is refused, before its statements are looked at
pub record IsUnread (held : Held) (name : List ℕ) (s : Stop) : Type 0 where
  pub text : List ℕ
  pub reads : Reads held name text
  pub refused : RefusedAs 0 text name s

-- its statements are refused, those of included files among them; where the store did not fail, this is due
pub record IsUnresolved (Failed : Type 0) (held : Held) (name : List ℕ) (which : Runs) (s : Stop) : Type 0 where
  pub text : List ℕ
  pub trees : List Syntax
  pub has : HasTrees held name text trees
  pub refused : Refuses held name trees which (stopped_by s)
  pub due : (Failed → ⊥) → IsDue held name trees which (stopped_by s)

-- the source has no Specs, and this is due to its own text
abbrev pub StopsAtText : Held → List ℕ → Stop → Type 0
StopsAtText held name s = IsAbsent held name s ⊎ IsUnread held name s

-- why a source has no Specs, where `Failed` says that the store failed
abbrev pub HasNoSpecs : Type 0 → Held → List ℕ → Runs → Stop → Type 0
HasNoSpecs Failed held name which s = StopsAtText held name s ⊎ IsUnresolved Failed held name which s

-- ---- why a machine has no tables

-- how a refused node is told, with the name of its file
abbrev pub IsToldAs : Cause → Place → List ℕ → Stop → Type 0
IsToldAs cause.L6 place file s = s ≡ stop.Limit (record { kind = L6; place = place }) file
IsToldAs cause.L8 place file s = s ≡ stop.Limit (record { kind = L8; place = place }) file
IsToldAs cause.F15 place file s = s ≡ stop.Fault (record { kind = F15; place = place }) file
IsToldAs (cause.F12 i) place file s = s ≡ stop.Fault (record { kind = F12; place = place }) file

-- a node of it is refused
pub record IsUnbuilt (spec : Spec) (s : Stop) : Type 0 where
  pub cause : Cause
  pub place : Place
  pub refused : IsRefusedAt spec cause place
  pub told : IsToldAs cause place (file_name spec.files place.file) s

-- the machine that runs has a refused node
abbrev pub HasNoTables : Held → List ℕ → Runs → Stop → Type 0
HasNoTables held name which s = (spec : Spec) × HasSpec held name which spec × IsUnbuilt spec s

-- why a source has no Specs, or its machine that runs no tables
abbrev pub Stops : Type 0 → Held → List ℕ → Runs → Stop → Type 0
Stops Failed held name which s = HasNoSpecs Failed held name which s ⊎ HasNoTables held name which s
