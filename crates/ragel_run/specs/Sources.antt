-- What a source comes to: the machine that is run, or why there is none. Of a source's machines the one with a given name
-- runs, or else the first (this profile).
use Rattle.std.specs.Prelude.{◌≡◌, ◌⊎◌, ℕ, List, Option, Some, None, slice_get}
use Rattle.std.specs.List.{find}
use Rattle.rl_types.specs.declared.faults.FaultKind.TheVariants.{F12, F15}
use Rattle.rl_types.specs.declared.faults.LimitKind.TheVariants.{L6, L8}
use Rattle.rl_types.specs.declared.numbers.Place.{Place}
use Rattle.rl_io.specs.Outside.{Held, Reads, Lacks}
use Rattle.rl_grammar.specs.declared.syntax.Syntax.{Syntax}
use Rattle.rl_automata.specs.Refused as cause
use Rattle.rl_automata.specs.Refused.{Cause}
use Rattle.rl_model.specs.declared.spec.Spec.{Spec}
use Rattle.rl_model.specs.RefusedNode.{IsRefusedAt, IsBuildable}
use Rattle.rl_files.specs.Files.{ReadsAs}
use Rattle.rl_includes.specs.Unrolling.{RefusedAs}
use Rattle.rl_includes.specs.declared.unrolled.Stop.{Stop}
use Rattle.rl_includes.specs.declared.unrolled.Stop.TheVariants as stop
use Rattle.rl_resolve.specs.declared.answer.Runs.{Runs}
use Rattle.rl_resolve.specs.declared.answer.Runs.TheVariants as runs
use Rattle.rl_resolve.specs.Refusals.{file_name, stopped_by}
use Rattle.rl_resolve.specs.Answers.{Resolves, Refuses, IsDue, is_running}

-- ---- the machine

-- the machine of this name is to run, or the first where none is named
abbrev pub IsToRun : Option (List ℕ) → Runs → Type 0
IsToRun machine runs.Nobody = ⊥
IsToRun machine runs.First = machine ≡ None
IsToRun machine (runs.Named name) = machine ≡ Some name.now

-- the one that runs, among the specifications of a source's machines; each machine has its own name
abbrev pub running : Option (List ℕ) → List Spec → Option Spec
running None specs = slice_get specs 0
running (Some name) specs = find (is_running name) specs

-- the text under a name reads as these trees, one for each block
pub record HasTrees (held : Held) (name : List ℕ) (trees : List Syntax) : Type 0 where
  pub text : List ℕ
  pub reads : Reads held name text
  pub means : ReadsAs 0 text trees

-- the trees come to these specifications, one for each machine
pub record HasSpecs (held : Held) (machine : Option (List ℕ)) (name : List ℕ) (specs : List Spec) : Type 0 where
  pub trees : List Syntax
  pub has : HasTrees held name trees
  pub which : Runs
  pub to_run : IsToRun machine which
  pub resolves : Resolves held name trees which specs

-- the one of them that runs
pub record HasSpec (held : Held) (machine : Option (List ℕ)) (name : List ℕ) (spec : Spec) : Type 0 where
  pub specs : List Spec
  pub has : HasSpecs held machine name specs
  pub runs : running machine specs ≡ Some spec

-- and none of its nodes is refused
pub record HasSource (held : Held) (machine : Option (List ℕ)) (name : List ℕ) (spec : Spec) : Type 0 where
  pub named : HasSpec held machine name spec
  pub buildable : IsBuildable spec

-- ---- why there is none

-- no file has the name
abbrev pub IsAbsent : Held → List ℕ → Stop → Type 0
IsAbsent held name s = Lacks held name × (s ≡ stop.Missing name)

-- the text under the name is refused, before its statements are looked at
pub record IsUnread (held : Held) (name : List ℕ) (s : Stop) : Type 0 where
  pub text : List ℕ
  pub reads : Reads held name text
  pub refused : RefusedAs 0 text name s

-- its statements are refused, those of included files among them; where the store did not fail, this is due
pub record IsUnresolved (Failed : Type 0) (held : Held) (machine : Option (List ℕ)) (name : List ℕ) (s : Stop) : Type 0 where
  pub trees : List Syntax
  pub has : HasTrees held name trees
  pub which : Runs
  pub to_run : IsToRun machine which
  pub refused : Refuses held name trees which (stopped_by s)
  pub due : (Failed → ⊥) → IsDue held name trees which (stopped_by s)

-- how a refused node is told, with the name of its file
abbrev pub IsToldAs : Cause → Place → List ℕ → Stop → Type 0
IsToldAs cause.L6 place file s = s ≡ stop.Limit (record { kind = L6; place = place }) file
IsToldAs cause.L8 place file s = s ≡ stop.Limit (record { kind = L8; place = place }) file
IsToldAs cause.F15 place file s = s ≡ stop.Fault (record { kind = F15; place = place }) file
IsToldAs (cause.F12 i) place file s = s ≡ stop.Fault (record { kind = F12; place = place }) file

-- a node of the machine that runs is refused
pub record IsUnbuilt (held : Held) (machine : Option (List ℕ)) (name : List ℕ) (s : Stop) : Type 0 where
  pub spec : Spec
  pub named : HasSpec held machine name spec
  pub cause : Cause
  pub place : Place
  pub refused : IsRefusedAt spec cause place
  pub told : IsToldAs cause place (file_name spec.files place.file) s

-- the source is refused, and the store did not fail
abbrev pub StopsByItself : Held → Option (List ℕ) → List ℕ → Stop → Type 0
StopsByItself held machine name s = IsAbsent held name s ⊎ IsUnread held name s ⊎ IsUnbuilt held machine name s

-- the source is refused so, where `Failed` says that the store failed
abbrev pub Stops : Type 0 → Held → Option (List ℕ) → List ℕ → Stop → Type 0
Stops Failed held machine name s = StopsByItself held machine name s ⊎ IsUnresolved Failed held machine name s
