-- What a replay of a script writes, and why it does not (this profile).
use Rattle.std.specs.Prelude.{◌≡◌, ◌≢◌, ◌⊎◌, ℕ, true, false, List, map, Option, Result, Ok, Err}
use Rattle.rl_io.specs.Outside.{Held, Rose, Reads, Lacks}
use Rattle.rl_arrays.specs.declared.arrays.Arrays.{Arrays}
use Rattle.rl_arrays.specs.TableMachine.{machine}
use Rattle.rl_cread.specs.Sections.{Explains}
use Rattle.rl_cread.specs.declared.fault.TableFault.{TableFault}
use Rattle.rl_cread.specs.declared.fault.TableFault.TheVariants as marks
use Rattle.rl_model.specs.declared.spec.ActionDef.{ActionDef}
use Rattle.rl_model.specs.declared.spec.Spec.{Spec}
use Rattle.rl_model.specs.Specification.{specification_of, action_name_at}
use Rattle.rl_model.specs.Trees.{TestsOf, AreTestsHonest, tree_machine}
use Rattle.rl_run.specs.declared.sessions.Settings.{Settings}
use Rattle.rl_replay.specs.declared.script.Line.{Line}
use Rattle.rl_replay.specs.declared.script.ScriptFault.{ScriptFault}
use Rattle.rl_replay.specs.declared.script.ScriptFault.TheVariants as faults
use Rattle.rl_replay.specs.Sessions.{Names}
use Rattle.rl_replay.specs.Written.{written}
use Rattle.rl_script.specs.TableNames.{names_in}
use Rattle.rl_includes.specs.declared.unrolled.Stop.{Stop}
use Rattle.rl_includes.specs.declared.unrolled.Stop.TheVariants as stop
use Rattle.rl_make.specs.Writes.{entry_names}
use Rattle.rl_words.specs.Runs.{is_printed}
use Rattle.rl_ends.specs.declared.refusal.Refusal.{Refusal}
use Rattle.rl_ends.specs.declared.refusal.Refusal.TheVariants as refusals
use Rattle.ragel_run.specs.Files.{HasNames, IsSection, IsSpelled, IsMisspelled, Gives, HasScript, IsFaulty}
use Rattle.ragel_run.specs.Sources.{IsUnresolved, StopsByItself, Stops}

-- a script that is replayed: over the machine of this name, or the first, of a file, with the settings of its sessions
pub record Job : Type 0 where
  pub machine : Option (List ℕ)
  pub settings : Settings
  pub spec : List ℕ
  pub script : List ℕ

-- ---- what is written

-- the names of a Spec's entries, actions and conditions; a condition has its action's name
abbrev pub names_of : Spec → Names
names_of spec = record {
  entries = entry_names spec;
  actions = map (λ (a : ActionDef). a.name) spec.actions;
  conditions = map (action_name_at (specification_of spec).actions) (specification_of spec).conditions;
}

-- what the expressions of a Spec write for the lines of a script
abbrev pub prescribed : (spec : Spec) → Settings → TestsOf (specification_of spec) → List Line → List ℕ
prescribed spec settings tests lines = written (names_of spec) (tree_machine (specification_of spec) tests) settings lines

-- what the machine of arrays writes for them
abbrev pub written_by : Arrays → Settings → List Line → List ℕ
written_by a settings lines = written (names_in a) (machine a) settings lines

-- the output gained by what the expressions of a source prescribe for a script, whatever the honest tests, of which there are
-- some. The script has no fault by the names of the source: an action that stands in no list has none
pub record ReplaysSource (Gains : List ℕ → Type 0) (held : Held) (job : Job) : Type 0 where
  pub by_name : is_printed job.spec ≡ false
  pub names : Names
  pub has : HasNames held job.machine job.spec names
  pub lines : List Line
  pub admitted : HasScript held job.script names lines
  pub gains : (tests : TestsOf (specification_of has.source)) → AreTestsHonest (specification_of has.source) tests
      → Gains (prescribed has.source job.settings tests lines)

-- the output gained by what the arrays write that a printed file spells
pub record ReplaysPrinted (Gains : List ℕ → Type 0) (held : Held) (job : Job) : Type 0 where
  pub by_name : is_printed job.spec ≡ true
  pub arrays : Arrays
  pub spelled : IsSpelled held job.machine job.spec arrays
  pub lines : List Line
  pub admitted : HasScript held job.script (names_in arrays) lines
  pub gains : Gains (written_by arrays job.settings lines)

-- the files have their forms, and the output gained by what is due
abbrev pub Replays : (List ℕ → Type 0) → Held → Job → Type 0
Replays Gains held job = ReplaysSource Gains held job ⊎ ReplaysPrinted Gains held job

-- ---- refusals

-- how the stop of a source is told
abbrev pub refusal_by : Stop → Refusal
refusal_by (stop.Fault fault file) = refusals.Fault fault file
refusal_by (stop.Limit limit file) = refusals.Limit limit file
refusal_by (stop.Missing file) = refusals.Missing file
refusal_by (stop.StoreFailed file) = refusals.StoreFailed file

-- why a source is refused, and how that leaves the store's count. Where it did not rise, the store failed at no file
abbrev pub RefusesSource : Held → Option (List ℕ) → List ℕ → ℕ → ℕ → Stop → Type 0
RefusesSource held machine spec before now (stop.StoreFailed file) =
    Rose before now × ((file ≡ spec) ⊎ IsUnresolved (Rose before now) held machine spec (stop.StoreFailed file))
RefusesSource held machine spec before now s =
    (StopsByItself held machine spec s × (now ≡ before)) ⊎ IsUnresolved (Rose before now) held machine spec s

-- why a source has no tables
abbrev pub HasNoSource : Held → Option (List ℕ) → List ℕ → ℕ → ℕ → Refusal → Type 0
HasNoSource held machine spec before now (refusals.Fault fault file) = RefusesSource held machine spec before now (stop.Fault fault file)
HasNoSource held machine spec before now (refusals.Limit limit file) = RefusesSource held machine spec before now (stop.Limit limit file)
HasNoSource held machine spec before now (refusals.Missing file) = RefusesSource held machine spec before now (stop.Missing file)
HasNoSource held machine spec before now (refusals.StoreFailed file) = RefusesSource held machine spec before now (stop.StoreFailed file)
HasNoSource held machine spec before now refusals.Memory = Unit {0}
HasNoSource held machine spec before now _ = ⊥

-- why a printed file has none
abbrev pub HasNoSection : Held → Option (List ℕ) → List ℕ → ℕ → ℕ → Refusal → Type 0
HasNoSection held machine spec before now (refusals.Missing file) = Lacks held spec × (file ≡ spec) × (now ≡ before)
HasNoSection held machine spec before now (refusals.StoreFailed file) = Rose before now × (file ≡ spec)
HasNoSection held machine spec before now (refusals.Section fault file) =
    ((fault ≡ marks.Memory) ⊎ IsMisspelled held machine spec fault) × (file ≡ spec) × (now ≡ before)
HasNoSection held machine spec before now refusals.Memory = Unit {0}
HasNoSection held machine spec before now _ = ⊥

-- why the first file has none
abbrev pub HasNoTables : Held → Option (List ℕ) → List ℕ → ℕ → ℕ → Refusal → Type 0
HasNoTables held machine spec before now refusal =
    ((is_printed spec ≡ false) × HasNoSource held machine spec before now refusal)
    ⊎ ((is_printed spec ≡ true) × HasNoSection held machine spec before now refusal)

-- why a script has no lines, where tables have these names
abbrev pub HasNoLines : Held → List ℕ → Names → ℕ → ℕ → Refusal → Type 0
HasNoLines held script names before now (refusals.Missing file) = Lacks held script × (file ≡ script) × (now ≡ before)
HasNoLines held script names before now (refusals.StoreFailed file) = Rose before now × (file ≡ script)
HasNoLines held script names before now (refusals.Script fault file) =
    ((fault ≡ faults.Memory) ⊎ IsFaulty held script names fault) × (file ≡ script) × (now ≡ before)
HasNoLines held script names before now refusals.Memory = Unit {0}
HasNoLines held script names before now _ = ⊥

-- the first file gives tables, and the script has no lines
abbrev pub HasTablesAlone : Held → Job → ℕ → ℕ → Refusal → Type 0
HasTablesAlone held job before now refusal =
    (a : Arrays) × Gives held job.machine job.spec a × HasNoLines held job.script (names_in a) before now refusal

-- why no lines are due, before anything is written; the script is looked at where the first file gives tables
abbrev pub HasNoDue : Held → Job → ℕ → ℕ → Refusal → Type 0
HasNoDue held job before now refusal =
    HasNoTables held job.machine job.spec before now refusal ⊎ HasTablesAlone held job before now refusal

-- ---- what is due where the store fails at no file

-- how a replay of this script on tables with these names is to end
abbrev pub DueByScript : Held → List ℕ → Names → Result (Unit {0}) Refusal → Type 0
DueByScript held script names end =
    (Lacks held script × (end ≡ Err (refusals.Missing script)))
    ⊎ ((fault : ScriptFault) × IsFaulty held script names fault × (end ≡ Err (refusals.Script fault script)))
    ⊎ ((lines : List Line) × HasScript held script names lines × (end ≡ Ok tt))

-- a source is refused so
abbrev pub DueByStop : Held → Option (List ℕ) → List ℕ → Result (Unit {0}) Refusal → Type 0
DueByStop held machine spec end = (s : Stop) × Stops ⊥ held machine spec s × (end ≡ Err (refusal_by s))

-- the same of a source and then the script, which is judged by the names of the source
abbrev pub DueBySource : Held → Job → Result (Unit {0}) Refusal → Type 0
DueBySource held job end =
    DueByStop held job.machine job.spec end
    ⊎ ((names : Names) × HasNames held job.machine job.spec names × DueByScript held job.script names end)

-- the same of a printed file: it has no section, or the first bad line or the first wrong element of the section is told
abbrev pub DueByPrinted : Held → Job → Result (Unit {0}) Refusal → Type 0
DueByPrinted held job end =
    (Lacks held job.spec × (end ≡ Err (refusals.Missing job.spec)))
    ⊎ ((text : List ℕ) × Reads held job.spec text × (fault : TableFault) × (fault ≢ marks.Memory) × Explains job.machine text fault
    × (end ≡ Err (refusals.Section fault job.spec)))
    ⊎ ((text : List ℕ) × Reads held job.spec text × (a : Arrays) × IsSection job.machine text a × DueByScript held job.script (names_in a) end)

-- how a replay is to end: the source or the printed file is looked at first, then the script
abbrev pub DueByFile : Held → Job → Result (Unit {0}) Refusal → Type 0
DueByFile held job end =
    ((is_printed job.spec ≡ false) × DueBySource held job end) ⊎ ((is_printed job.spec ≡ true) × DueByPrinted held job end)
