-- What the steps of a run read and write.
use Rattle.std.specs.Prelude.{◌≡◌, ◌≢◌, ◌⊎◌, ℕ, List, Option, Some, None, IfSome, Result, Ok, Err}
use Rattle.rl_types.specs.declared.numbers.Place.{Place}
use Rattle.rl_io.specs.Outside.{Held, Rose, Lacks, Writes, Appends, AppendsPrefix}
use Rattle.rl_grammar.specs.declared.syntax.Syntax.{Syntax}
use Rattle.rl_automata.specs.Refused.{Cause}
use Rattle.rl_arrays.specs.declared.arrays.Arrays.{Arrays}
use Rattle.rl_arrays.specs.Section.{section}
use Rattle.rl_arrays.specs.Shared.{upgraded}
use Rattle.rl_cdata.specs.Printed.{IsReadBack}
use Rattle.rl_upgrade.specs.Shows.{ShowsSame}
use Rattle.rl_model.specs.declared.spec.Spec.{Spec}
use Rattle.rl_model.specs.RefusedNode.{IsRefusedAt}
use Rattle.rl_model.specs.WellFormed.{IsWellFormed}
use Rattle.rl_build.specs.declared.fault.BuildRefusal.{BuildRefusal}
use Rattle.rl_build.specs.Trees.{cause_of}
use Rattle.rl_run.specs.declared.sessions.Settings.{Settings}
use Rattle.rl_replay.specs.declared.script.Line.{Line}
use Rattle.rl_replay.specs.declared.script.Script.{Script}
use Rattle.rl_replay.specs.declared.script.ScriptFault.{ScriptFault}
use Rattle.rl_replay.specs.declared.script.ScriptFault.TheVariants as faults
use Rattle.rl_replay.specs.Sessions.{Names, script_of}
use Rattle.rl_script.specs.TableNames.{names_in}
use Rattle.rl_includes.specs.declared.unrolled.Stop.TheVariants as stop
use Rattle.rl_resolve.specs.declared.answer.ResolveFault.{ResolveFault}
use Rattle.rl_resolve.specs.declared.answer.ResolveFault.TheVariants as fault
use Rattle.rl_resolve.specs.Refusals.{file_name}
use Rattle.rl_words.specs.declared.replays.Replay.{Replay}
use Rattle.rl_words.specs.Told.{text_in}
use Rattle.rl_ends.specs.declared.refusal.Refusal.{Refusal}
use Rattle.rl_ends.specs.declared.refusal.Refusal.TheVariants as refusals
use Rattle.ragel_run.specs.Files.{IsMade, IsSpelled, Gives, HasScript}
use Rattle.ragel_run.specs.Sources.{HasTrees, HasSpecs, IsUnread, IsToldAs, running}
use Rattle.ragel_run.specs.Replay.{Job, Replays, HasNoSource, HasNoSection, HasNoTables, HasNoDue, HasNoLines, written_by}
use Rattle.ragel_run.specs.Upgrade.{Renewal, Renews, HasNoRenewal}
use Rattle.ragel_run.specs.Made.{Making, Makes}
use Rattle.rl_arrays.specs.TableMachine.{machine}
use Rattle.rl_playback.specs.Defaults.{default_settings}
use Rattle.rl_stream.specs.Lines.{input_name}
use Rattle.rl_stream.specs.Streams as stream
use Rattle.rl_stream.specs.declared.fault.StreamFault.{StreamFault}
use Rattle.rl_stream.specs.declared.fault.StreamFault.TheVariants as stream_faults
use Rattle.ragel_run.specs.Streamed.{Input, IsUntouched, input_limit, no_entry, number_in}
use Rattle.ragel_run.specs.declared.source.Unread.{Unread}
use Rattle.ragel_run.specs.declared.source.Unread.TheVariants as unread

-- what a replay's words name
abbrev pub job_of : Replay → Job
job_of r = record { machine = text_in r.machine; settings = r.settings; spec = r.spec.now; script = r.script.now }

-- ---- the source

-- the trees of a source's text, or why it has none
abbrev pub ReadsTrees : Held → List ℕ → ℕ → ℕ → Result (List Syntax) Unread → Type 0
ReadsTrees held name before now (Ok trees) = HasTrees held name trees × (now ≡ before)
ReadsTrees held name before now (Err unread.Missing) = Lacks held name × (now ≡ before)
ReadsTrees held name before now (Err unread.Failed) = Rose before now
ReadsTrees held name before now (Err (unread.Fault fault)) = IsUnread held name (stop.Fault fault name) × (now ≡ before)
ReadsTrees held name before now (Err (unread.Limit limit)) = IsUnread held name (stop.Limit limit name) × (now ≡ before)
ReadsTrees held name before now (Err unread.Memory) = now ≡ before

-- the end where the text of a source is not read
abbrev pub refusal_by_text : Unread → List ℕ → Refusal
refusal_by_text unread.Missing file = refusals.Missing file
refusal_by_text unread.Failed file = refusals.StoreFailed file
refusal_by_text (unread.Fault fault) file = refusals.Fault fault file
refusal_by_text (unread.Limit limit) file = refusals.Limit limit file
refusal_by_text unread.Memory file = refusals.Memory

-- the end where its statements are refused
abbrev pub refusal_by_names : ResolveFault → Refusal
refusal_by_names (fault.Fault f file) = refusals.Fault f file
refusal_by_names (fault.Limit l file) = refusals.Limit l file
refusal_by_names (fault.Missing file) = refusals.Missing file
refusal_by_names (fault.StoreFailed file) = refusals.StoreFailed file
refusal_by_names fault.Memory = refusals.Memory

-- the specifications of a source, or why it has none
abbrev pub ReadsSpecs : Held → Option (List ℕ) → List ℕ → ℕ → ℕ → Result (List Spec) Refusal → Type 0
ReadsSpecs held machine name before now (Ok specs) = HasSpecs held machine name specs × (now ≡ before)
ReadsSpecs held machine name before now (Err refusal) = HasNoSource held machine name before now refusal

-- the one of these specifications that runs is well-formed
abbrev pub AreFormed : Option (List ℕ) → List Spec → Type 0
AreFormed machine specs = IfSome (running machine specs) IsWellFormed

-- how a refused node is told, or want of memory
abbrev pub TellsNode : List (List ℕ) → BuildRefusal → Refusal → Type 0
TellsNode files r (refusals.Fault f file) =
    (cause : Cause) × (cause_of r.fault ≡ Some cause) × IsToldAs cause r.place (file_name files r.place.file) (stop.Fault f file)
TellsNode files r (refusals.Limit l file) =
    (cause : Cause) × (cause_of r.fault ≡ Some cause) × IsToldAs cause r.place (file_name files r.place.file) (stop.Limit l file)
TellsNode files r refusals.Memory = Unit {0}
TellsNode files r _ = ⊥

-- why a Spec has no tables: its first refused node, or want of memory
abbrev pub IsRefusedSpec : Spec → Refusal → Type 0
IsRefusedSpec spec (refusals.Fault f file) =
    (cause : Cause) × (place : Place) × IsRefusedAt spec cause place × IsToldAs cause place (file_name spec.files place.file) (stop.Fault f file)
IsRefusedSpec spec (refusals.Limit l file) =
    (cause : Cause) × (place : Place) × IsRefusedAt spec cause place × IsToldAs cause place (file_name spec.files place.file) (stop.Limit l file)
IsRefusedSpec spec refusals.Memory = Unit {0}
IsRefusedSpec spec _ = ⊥

-- the tables of a source's machine, or why it has none
abbrev pub ReadsSource : Held → Option (List ℕ) → List ℕ → ℕ → ℕ → Result Arrays Refusal → Type 0
ReadsSource held machine name before now (Ok a) = IsMade held machine name a × (now ≡ before)
ReadsSource held machine name before now (Err refusal) = HasNoSource held machine name before now refusal

-- ---- the tables

-- the tables that a printed file spells, or why it spells none
abbrev pub ReadsSection : Held → Option (List ℕ) → List ℕ → ℕ → ℕ → Result Arrays Refusal → Type 0
ReadsSection held machine name before now (Ok a) = IsSpelled held machine name a × (now ≡ before)
ReadsSection held machine name before now (Err refusal) = HasNoSection held machine name before now refusal

-- the tables that a source or a printed file gives, or why it gives none
abbrev pub ReadsTables : Held → Option (List ℕ) → List ℕ → ℕ → ℕ → Result Arrays Refusal → Type 0
ReadsTables held machine name before now (Ok a) = Gives held machine name a × (now ≡ before)
ReadsTables held machine name before now (Err refusal) = HasNoTables held machine name before now refusal

-- ---- the script

-- why a text is no script, where tables have these names; want of memory has no cause
abbrev pub IsNoScript : Names → List ℕ → ScriptFault → Type 0
IsNoScript names text fault = (fault ≡ faults.Memory) ⊎ (script_of names text ≡ Err fault)

-- the lines of a script, or why it has none
abbrev pub ReadsScript : Held → List ℕ → Names → ℕ → ℕ → Result Script Refusal → Type 0
ReadsScript held name names before now (Ok script) = HasScript held name names script.lines × (now ≡ before)
ReadsScript held name names before now (Err refusal) = HasNoLines held name names before now refusal

-- what tables write for a script, or why it has no lines
abbrev pub GivesLines : Held → List ℕ → Arrays → Settings → ℕ → ℕ → Result (List ℕ) Refusal → Type 0
GivesLines held script a settings before now (Ok items) =
    (lines : List Line) × HasScript held script (names_in a) lines × (items ≡ written_by a settings lines) × (now ≡ before)
GivesLines held script a settings before now (Err refusal) = HasNoLines held script (names_in a) before now refusal

-- the lines that are due for two files, or why none are
abbrev pub GivesDue : Held → Job → ℕ → ℕ → Result (List ℕ) Refusal → Type 0
GivesDue held job before now (Ok items) = Replays (λ due. items ≡ due) held job × (now ≡ before)
GivesDue held job before now (Err refusal) = HasNoDue held job before now refusal

-- the line that is due for an input that is made, or why none is
abbrev pub GivesMade : Held → Making → ℕ → ℕ → Result (List ℕ) Refusal → Type 0
GivesMade held m before now (Ok items) = Makes (λ due. items ≡ due) held m × (now ≡ before)
GivesMade held m before now (Err refusal) = HasNoTables held None m.spec before now refusal

-- ---- the output

-- the lines go out: whole, or a prefix where the output failed, or nothing where memory was wanting
abbrev pub WritesLines : {T : Type 0} → List ℕ → Option (List ℕ) → Option (List ℕ) → ℕ → ℕ → Result T Refusal → Type 0
WritesLines lines old new before now (Ok done) = Appends old new lines × (now ≡ before)
WritesLines lines old new before now (Err refusals.OutputFailed) = AppendsPrefix old new lines × Rose before now
WritesLines lines old new before now (Err refusals.Memory) = (new ≡ old) × (now ≡ before)
WritesLines lines old new before now (Err _) = ⊥

-- ---- the standard input

-- how the fault of a run over it is told, with the name `input`
abbrev pub refusal_by_stream : StreamFault → List ℕ → Refusal
refusal_by_stream stream_faults.InputFailed file = refusals.InputFailed
refusal_by_stream stream_faults.OutputFailed file = refusals.OutputFailed
refusal_by_stream stream_faults.TooLong file = refusals.Limit input_limit file
refusal_by_stream stream_faults.Memory file = refusals.Memory

-- the run of tables from an entry on: what it writes, and why it ends before its end
abbrev pub RunsFrom : {T : Type 0} → Arrays → ℕ → Input → Option (List ℕ) → Option (List ℕ) → ℕ → ℕ → Result T Refusal → Type 0
RunsFrom a e i old new before now (Ok done) =
    stream.Streams (machine a) default_settings e i.left_before i.left old new × (now ≡ before) × (i.now ≡ i.before)
RunsFrom a e i old new before now (Err refusals.OutputFailed) =
    stream.LeavesFront (machine a) default_settings e i.left_before old new × Rose before now × (i.now ≡ i.before)
RunsFrom a e i old new before now (Err refusals.InputFailed) =
    stream.LeavesOpen (machine a) default_settings e i.left_before i.left old new × Rose i.before i.now × (now ≡ before)
RunsFrom a e i old new before now (Err refusals.Memory) =
    stream.LeavesEvents (machine a) default_settings e i.left_before old new × (now ≡ before) × (i.now ≡ i.before)
RunsFrom a e i old new before now (Err (refusals.Limit limit file)) =
    stream.LeavesEvents (machine a) default_settings e i.left_before old new × (now ≡ before) × (i.now ≡ i.before)
    × stream.HasTooMany i.left_before × (limit ≡ input_limit) × (file ≡ input_name)
RunsFrom a e i old new before now (Err _) = ⊥

-- why there is no run: the tables have no such entry, or memory was wanting
abbrev pub IsNotRun : {T : Type 0} → Arrays → List ℕ → Result T Refusal → Type 0
IsNotRun a entry (Err (refusals.Script fault file)) = (number_in (names_in a) entry ≡ 0) × (fault ≡ no_entry) × (file ≡ input_name)
IsNotRun a entry (Err refusals.Memory) = Unit {0}
IsNotRun a entry _ = ⊥

-- the run of tables from the entry of this name on, or none
abbrev pub RunsOver : {T : Type 0} → Arrays → List ℕ → Input → Option (List ℕ) → Option (List ℕ) → ℕ → ℕ → Result T Refusal → Type 0
RunsOver a entry i old new before now end =
    ((number_in (names_in a) entry ≢ 0) × RunsFrom a (number_in (names_in a) entry) i old new before now end)
    ⊎ (IsNotRun a entry end × (new ≡ old) × (now ≡ before) × IsUntouched i)

-- ---- the new file

-- the text goes to a file: it holds it then, and nothing where memory was wanting; every other name holds what it held
abbrev pub WritesFile : {T : Type 0} → List ℕ → List ℕ → Held → Held → ℕ → ℕ → Result T Refusal → Type 0
WritesFile name text held holds before now (Ok done) = Writes held holds name text × (now ≡ before)
WritesFile name text held holds before now (Err (refusals.StoreFailed file)) = Rose before now × (file ≡ name)
WritesFile name text held holds before now (Err refusals.Memory) = holds ≡ held
WritesFile name text held holds before now (Err _) = ⊥

-- the section of arrays in version 2
pub record IsNewSection (a : Arrays) (text : List ℕ) : Type 0 where
  pub is : text ≡ section (upgraded a)
  pub read : IsReadBack (section (upgraded a)) (upgraded a)
  pub shows : ShowsSame a (upgraded a)

-- an upgrade up to its end
abbrev pub UpgradesAs : {T : Type 0} → Renewal → Held → Held → ℕ → ℕ → Result T Refusal → Type 0
UpgradesAs r held holds before now (Ok done) = Renews held holds r × (now ≡ before)
UpgradesAs r held holds before now (Err refusal) = HasNoRenewal held holds r before now refusal
