-- How `ragel-run` ends, when it ends how, and what is told of it (this profile).
use Rattle.std.specs.Prelude.{◌≡◌, ◌⊎◌, ℕ, true, false, IsSome, List, [], Option, Some, None, Result, Ok, Err}
use Rattle.rl_types.specs.declared.faults.Fault.{Fault}
use Rattle.rl_types.specs.declared.faults.Limit.{Limit}
use Rattle.rl_types.specs.declared.status.Status.{Status}
use Rattle.rl_types.specs.declared.status.Status.TheVariants as statuses
use Rattle.rl_io.specs.Outside.{Held, Rose, Lacks, Appends, AppendsPrefix, KeepsOthers}
use Rattle.rl_arrays.specs.declared.arrays.Arrays.{Arrays}
use Rattle.rl_cread.specs.declared.fault.TableFault.{TableFault}
use Rattle.rl_io.specs.declared.outside.SinkFault.{SinkFault}
use Rattle.rl_replay.specs.declared.script.ScriptFault.{ScriptFault}
use Rattle.rl_script.specs.TableNames.{names_in}
use Rattle.rl_includes.specs.declared.unrolled.Stop.{Stop}
use Rattle.rl_includes.specs.declared.unrolled.Stop.TheVariants as stop
use Rattle.rl_words.specs.Runs as words
use Rattle.rl_words.specs.Runs.{Run, is_printed}
use Rattle.rl_ends.specs.declared.refusal.Refusal.{Refusal}
use Rattle.rl_ends.specs.declared.refusal.Refusal.TheVariants as refusals
use Rattle.rl_ends.specs.Statuses.{status_of}
use Rattle.rl_ends.specs.Told.{Tells, TellsAs, line_of}
use Rattle.ragel_run.specs.Files.{IsMisspelled, Gives, IsFaulty}
use Rattle.ragel_run.specs.Sources.{Stops}
use Rattle.ragel_run.specs.Replay.{Job, Replays, HasNoTables, HasNoDue, DueByFile}
use Rattle.ragel_run.specs.Upgrade.{Renewal, Renews, HasNoRenewal, DueByRenewal}
use Rattle.ragel_run.specs.Made.{Making, Makes, DueByMaking}
use Rattle.rl_stream.specs.Lines.{input_name}
use Rattle.rl_stream.specs.Streams.{HasTooMany}
use Rattle.ragel_run.specs.Streamed.{Streaming, Input, IsUntouched, Streams, HasEvents, HasOpen, HasArrays, LacksEntry, OfBytes, no_entry, input_limit, DueByStreaming}

-- what a run finds and what it leaves: what the store held and holds, what was written to the output, and counts of faults
pub record Outside : Type 0 where
  pub held : Held
  pub holds : Held
  pub store_before : ℕ
  pub store : ℕ
  pub written_before : Option (List ℕ)
  pub written : Option (List ℕ)
  pub output_before : ℕ
  pub output : ℕ

-- the record of these
abbrev pub outside : Held → Held → ℕ → ℕ → Option (List ℕ) → Option (List ℕ) → ℕ → ℕ → Outside
outside held holds store_before store written_before written output_before output = record {
  held = held;
  holds = holds;
  store_before = store_before;
  store = store;
  written_before = written_before;
  written = written;
  output_before = output_before;
  output = output;
}

-- neither the store nor the output failed
abbrev pub IsFaultless : Outside → Type 0
IsFaultless o = (o.store ≡ o.store_before) × (o.output ≡ o.output_before)

-- nothing was written to the output, which did not fail
abbrev pub IsSilent : Outside → Type 0
IsSilent o = (o.written ≡ o.written_before) × (o.output ≡ o.output_before)

-- ---- what the words say

-- what is said of a replay holds, where they say one
abbrev pub OfReplay : (Job → Type 0) → Option Run → Type 0
OfReplay P (Some (words.Replay machine settings spec script)) = P (record { machine = machine; settings = settings; spec = spec; script = script })
OfReplay P _ = ⊥

-- what is said of an upgrade
abbrev pub OfRenewal : (Renewal → Type 0) → Option Run → Type 0
OfRenewal P (Some (words.Upgrade machine out spec)) = P (record { machine = machine; out = out; spec = spec })
OfRenewal P _ = ⊥

-- what is said of an input that is made
abbrev pub OfMaking : (Making → Type 0) → Option Run → Type 0
OfMaking P (Some (words.Make lines spec)) = P (record { lines = lines; spec = spec })
OfMaking P _ = ⊥

-- what is said of a run over the standard input
abbrev pub OfStreaming : (Streaming → Type 0) → Option Run → Type 0
OfStreaming P (Some (words.Stream spec entry)) = P (record { spec = spec; entry = entry })
OfStreaming P _ = ⊥

-- what is said of the machine that runs, but for an upgrade: its name, if the words give one, and its file
abbrev pub OfMachine : (Option (List ℕ) → List ℕ → Type 0) → Option Run → Type 0
OfMachine P (Some (words.Replay machine settings spec script)) = P machine spec
OfMachine P (Some (words.Make lines spec)) = P None spec
OfMachine P (Some (words.Stream spec entry)) = P None spec
OfMachine P _ = ⊥

-- they say nothing that is done
abbrev pub OfNothing : Type 0 → Option Run → Type 0
OfNothing P None = P
OfNothing P _ = ⊥

-- what is said of each form of words, and of words that say nothing
abbrev pub Said : (Job → Type 0) → (Renewal → Type 0) → (Making → Type 0) → (Streaming → Type 0) → Type 0 → Option Run → Type 0
Said Replayed Renewed Made Streamed Nothing (Some (words.Replay machine settings spec script)) =
    Replayed (record { machine = machine; settings = settings; spec = spec; script = script })
Said Replayed Renewed Made Streamed Nothing (Some (words.Upgrade machine out spec)) =
    Renewed (record { machine = machine; out = out; spec = spec })
Said Replayed Renewed Made Streamed Nothing (Some (words.Make lines spec)) = Made (record { lines = lines; spec = spec })
Said Replayed Renewed Made Streamed Nothing (Some (words.Stream spec entry)) = Streamed (record { spec = spec; entry = entry })
Said Replayed Renewed Made Streamed Nothing None = Nothing

-- ---- why a run has its status

-- all bytes of the input were read, where it tells them
abbrev pub IsReadToEnd : Input → Type 0
IsReadToEnd i = OfBytes (λ bytes. i.left ≡ Some []) i.left_before

-- a source is refused so; where the count of the store's faults did not rise, the store failed at no file
abbrev pub IsStoppedBy : Outside → Stop → Option (List ℕ) → List ℕ → Type 0
IsStoppedBy o s machine spec = (is_printed spec ≡ false) × Stops (Rose o.store_before o.store) o.held machine spec s

-- the first file gives tables with whose names the script has a fault
abbrev pub IsFaultyScript : Outside → Job → Type 0
IsFaultyScript o job =
    (a : Arrays) × Gives o.held job.machine job.spec a × (fault : ScriptFault) × IsFaulty o.held job.script (names_in a) fault

-- a file is missing: one of the source's, or the printed file
abbrev pub IsMissing : Outside → Option (List ℕ) → List ℕ → Type 0
IsMissing o machine spec =
    ((file : List ℕ) × IsStoppedBy o (stop.Missing file) machine spec) ⊎ ((is_printed spec ≡ true) × Lacks o.held spec)

-- the section of a printed file is absent or not right
abbrev pub IsMisread : Outside → Option (List ℕ) → List ℕ → Type 0
IsMisread o machine spec = (fault : TableFault) × IsMisspelled o.held machine spec fault

abbrev pub HasCause : Outside → Input → Option Run → Status → Type 0
HasCause o i said statuses.Done =
    (OfReplay (Replays (Appends o.written_before o.written) o.held) said ⊎ OfRenewal (Renews o.held o.holds) said
    ⊎ OfMaking (Makes (Appends o.written_before o.written) o.held) said
    ⊎ OfStreaming (λ s. Streams (Appends o.written_before o.written) o.held s i.left_before × IsReadToEnd i) said)
    × IsFaultless o × (i.now ≡ i.before)
HasCause o i said statuses.Usage = OfNothing (Unit {0}) said
HasCause o i said statuses.Source = (fault : Fault) × (file : List ℕ) × OfMachine (IsStoppedBy o (stop.Fault fault file)) said
HasCause o i said statuses.Limit =
    ((limit : Limit) × (file : List ℕ) × OfMachine (IsStoppedBy o (stop.Limit limit file)) said)
    ⊎ OfStreaming (λ s. HasTooMany i.left_before) said
HasCause o i said statuses.Script = OfReplay (IsFaultyScript o) said ⊎ OfStreaming (LacksEntry o.held) said
HasCause o i said statuses.Tables =
    OfMachine (λ machine spec. (is_printed spec ≡ true) × IsMisread o machine spec) said
    ⊎ OfRenewal (λ r. IsMisread o r.machine r.spec) said
HasCause o i said statuses.Outside =
    Rose o.store_before o.store ⊎ Rose o.output_before o.output ⊎ OfMachine (IsMissing o) said
    ⊎ OfReplay (λ job. Lacks o.held job.script) said ⊎ OfRenewal (λ r. Lacks o.held r.spec) said
    ⊎ (Rose i.before i.now × OfStreaming (λ s. Unit {0}) said)
HasCause o i said statuses.Memory = Unit {0}

-- ---- the end

-- a replay up to its end: how it ended, with the cause, and what it leaves
abbrev pub EndsReplay : {T : Type 0} → Outside → Result T Refusal → Job → Type 0
EndsReplay o (Ok done) job = Replays (Appends o.written_before o.written) o.held job × IsFaultless o
EndsReplay o (Err refusals.OutputFailed) job =
    Replays (AppendsPrefix o.written_before o.written) o.held job × Rose o.output_before o.output × (o.store ≡ o.store_before)
EndsReplay o (Err refusals.Memory) job = IsSilent o
EndsReplay o (Err refusal) job = HasNoDue o.held job o.store_before o.store refusal × IsSilent o

-- an upgrade up to its end
abbrev pub EndsRenewal : {T : Type 0} → Outside → Result T Refusal → Renewal → Type 0
EndsRenewal o (Ok done) r = Renews o.held o.holds r × IsSilent o × (o.store ≡ o.store_before)
EndsRenewal o (Err refusal) r = HasNoRenewal o.held o.holds r o.store_before o.store refusal × IsSilent o

-- a run over an input that is made, up to its end
abbrev pub EndsMaking : {T : Type 0} → Outside → Result T Refusal → Making → Type 0
EndsMaking o (Ok done) m = Makes (Appends o.written_before o.written) o.held m × IsFaultless o
EndsMaking o (Err refusals.OutputFailed) m =
    Makes (AppendsPrefix o.written_before o.written) o.held m × Rose o.output_before o.output × (o.store ≡ o.store_before)
EndsMaking o (Err refusals.Memory) m = IsSilent o
EndsMaking o (Err refusal) m = HasNoTables o.held None m.spec o.store_before o.store refusal × IsSilent o

-- no line is due, and the input was not read
abbrev pub EndsBeforeRun : Outside → Input → Refusal → Streaming → Type 0
EndsBeforeRun o i refusal s = HasNoTables o.held None s.spec o.store_before o.store refusal × IsSilent o × IsUntouched i

-- the events of blocks that were read, and nothing failed
abbrev pub EndsInRun : Outside → Input → Streaming → Type 0
EndsInRun o i s =
    HasArrays (λ a. HasEvents a s.entry i o.written_before o.written) o.held s × IsFaultless o × (i.now ≡ i.before)

-- a run over the standard input up to its end
abbrev pub EndsStreaming : {T : Type 0} → Outside → Input → Result T Refusal → Streaming → Type 0
EndsStreaming o i (Ok done) s =
    Streams (Appends o.written_before o.written) o.held s i.left_before × IsReadToEnd i × IsFaultless o × (i.now ≡ i.before)
EndsStreaming o i (Err refusals.OutputFailed) s =
    Streams (AppendsPrefix o.written_before o.written) o.held s i.left_before × Rose o.output_before o.output
    × (o.store ≡ o.store_before) × (i.now ≡ i.before)
EndsStreaming o i (Err refusals.InputFailed) s =
    HasArrays (λ a. HasOpen a s.entry i o.written_before o.written) o.held s × Rose i.before i.now × IsFaultless o
EndsStreaming o i (Err refusals.Memory) s = (IsSilent o × IsUntouched i) ⊎ EndsInRun o i s
EndsStreaming o i (Err (refusals.Script fault file)) s =
    LacksEntry o.held s × (fault ≡ no_entry) × (file ≡ input_name) × IsSilent o × (o.store ≡ o.store_before) × IsUntouched i
EndsStreaming o i (Err (refusals.Limit limit file)) s =
    EndsBeforeRun o i (refusals.Limit limit file) s
    ⊎ (EndsInRun o i s × HasTooMany i.left_before × (limit ≡ input_limit) × (file ≡ input_name))
EndsStreaming o i (Err refusal) s = EndsBeforeRun o i refusal s

-- words that say nothing
abbrev pub EndsAtWords : {T : Type 0} → Outside → Result T Refusal → Type 0
EndsAtWords o (Err refusals.Usage) = IsSilent o × (o.store ≡ o.store_before)
EndsAtWords o (Err refusals.Memory) = IsSilent o × (o.store ≡ o.store_before)
EndsAtWords o _ = ⊥

-- a run up to its end. Only an upgrade writes to the store, and it keeps every name but the new file's; only a run over the
-- standard input reads this
abbrev pub Ends : {T : Type 0} → Outside → Input → Option Run → Result T Refusal → Type 0
Ends o i said end =
    Said (λ job. EndsReplay o end job × (o.holds ≡ o.held) × IsUntouched i)
    (λ r. EndsRenewal o end r × KeepsOthers o.held o.holds r.out × IsUntouched i)
    (λ m. EndsMaking o end m × (o.holds ≡ o.held) × IsUntouched i) (λ s. EndsStreaming o i end s × (o.holds ≡ o.held))
    (EndsAtWords o end × (o.holds ≡ o.held) × IsUntouched i) said

-- there is one way to end, with its status, and what the error output answered to its line
abbrev pub EndsTelling : {T : Type 0} → Outside → Input → Option Run → Option (List ℕ) → Option (List ℕ) → ℕ → ℕ → Status
    → Result T SinkFault → Type 0
EndsTelling o i said old new before now status told =
    (end : Result (Unit {0}) Refusal) × Ends o i said end × (status ≡ status_of end) × TellsAs old new before now (line_of end) told

-- there is one way to end, with its status, and the error output gains its line
abbrev pub EndsWith : Outside → Input → Option Run → Option (List ℕ) → Option (List ℕ) → ℕ → ℕ → Status → Type 0
EndsWith o i said old new before now status =
    (end : Result (Unit {0}) Refusal) × Ends o i said end × (status ≡ status_of end) × Tells old new before now (line_of end)

-- ---- what is due

-- how a run is to end where nothing fails
abbrev pub Due : Held → Option (List ℕ) → Option Run → Result (Unit {0}) Refusal → Type 0
Due held left said end =
    Said (λ job. DueByFile held job end) (λ r. DueByRenewal held r end) (λ m. DueByMaking held m end)
    (λ s. DueByStreaming held s left end) (end ≡ Err refusals.Usage) said

-- the store tells what it holds, and no count of faults rose
pub record HasNoFault (o : Outside) (i : Input) : Type 0 where
  pub told : IsSome o.held
  pub store : Rose o.store_before o.store → ⊥
  pub output : Rose o.output_before o.output → ⊥
  pub input : Rose i.before i.now → ⊥

-- a run that meets no fault ends as it is to end, or for want of memory
abbrev pub IsComplete : Outside → Input → Option Run → Option (List ℕ) → Option (List ℕ) → ℕ → ℕ → Status → Type 0
IsComplete o i said old new before now status =
    HasNoFault o i → (end : Result (Unit {0}) Refusal) → Due o.held i.left_before said end →
    ((status ≡ status_of end) × Tells old new before now (line_of end)) ⊎ (status ≡ statuses.Memory)

-- ---- the answer

-- the status has its cause, there is one end that has it, and it is the one that is due
pub record Answers (o : Outside) (i : Input) (said : Option Run) (old new : Option (List ℕ)) (before now : ℕ) (status : Status) : Type 0 where
  pub cause : HasCause o i said status
  pub ends : EndsWith o i said old new before now status
  pub complete : IsComplete o i said old new before now status
