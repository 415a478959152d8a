-- How the steps of a run over the standard input put together say how it ends.
use Rattle.std.proofs.Common.{◌≡◌, ◌≢◌, ◌∙◌, ◌⊎◌, inl, inr, ℕ, ◌+◌, ◌≤◌, true, List, [], Option, Some, None, slice_get, Result, Ok, Err, OnOk, OnErr, refl, sym, ap, subst, arith}
use Rattle.std.specs.Prelude.{unwrap_or}
use Rattle.std.specs.List.{position}
use Rattle.std.specs.Option.{option_map}
use Rattle.std.specs.Str.{bytes_eq}
use Rattle.rl_types.specs.declared.numbers.EntryId.{EntryId}
use Rattle.rl_io.specs.Outside.{Held, Rose, Appends, AppendsPrefix, HasCause}
use Rattle.rl_arrays.specs.declared.arrays.Arrays.{Arrays}
use Rattle.rl_arrays.specs.TableMachine.{machine}
use Rattle.rl_arrays.specs.Valid.{Valid}
use Rattle.rl_tables.specs.Steps.{IsEntryNumber}
use Rattle.rl_model.specs.Specification.{specification_of}
use Rattle.rl_run.specs.declared.sessions.Settings.{Settings}
use Rattle.rl_replay.specs.Sessions.{Names}
use Rattle.rl_replay.proofs.Whole.{one_run}
use Rattle.rl_script.specs.TableNames.{names_in}
use Rattle.rl_playback.specs.Defaults.{default_settings}
use Rattle.rl_playback.proofs.Entries as entries
use Rattle.rl_stream.specs.Lines.{input_name, lines_over}
use Rattle.rl_stream.specs.Streams as stream
use Rattle.rl_stream.specs.declared.fault.StreamFault.{StreamFault}
use Rattle.rl_stream.specs.declared.fault.StreamFault.TheVariants as faults
use Rattle.rl_ends.specs.declared.refusal.Refusal.{Refusal}
use Rattle.rl_ends.specs.declared.refusal.Refusal.TheVariants as refusals
use Rattle.ragel_run.specs.Files.{Gives}
use Rattle.ragel_run.specs.Replay.{HasNoTables, names_of, prescribed, written_by}
use Rattle.ragel_run.specs.Reads.{ReadsTables, RunsFrom, RunsOver, IsNotRun, refusal_by_stream}
use Rattle.ragel_run.specs.Streamed.{Streaming, Input, IsUntouched, OfBytes, Streams, HasArrays, input_limit, no_entry, number_in, script_over}
use Rattle.ragel_run.specs.Ends.{outside, EndsStreaming}
use Rattle.ragel_run.proofs.Prescribed.{lines_prescribed}

-- ---- the call

module _ (a : Arrays) (e : ℕ) (i : Input) (old new : Option (List ℕ)) (before now : ℕ) where
  -- the run to its end
  pub ran : {T : Type 0} (done : T) (settings : Settings) → settings ≡ default_settings → stream.Streams (machine a) settings e i.left_before i.left old new →
      HasCause i.before i.now (Ok done ≡ Err faults.InputFailed) → HasCause before now (Ok done ≡ Err faults.OutputFailed) →
      RunsFrom {T = T} a e i old new before now (Ok done)
  ran done settings is s c d = (subst (λ x. stream.Streams (machine a) x e i.left_before i.left old new) is s, d.kept (λ e. cc), c.kept (λ e. cc))

  abbrev failed : {T : Type 0} → StreamFault → Result T StreamFault
  failed fault = Err fault

  -- before its end
  ran_before : {T : Type 0} (fault : StreamFault) → stream.LeavesFront (machine a) default_settings e i.left_before old new →
      (failed {T = T} fault ≢ Err faults.OutputFailed → stream.LeavesEvents (machine a) default_settings e i.left_before old new) →
      (failed {T = T} fault ≡ Err faults.InputFailed → stream.LeavesOpen (machine a) default_settings e i.left_before i.left old new) →
      (failed {T = T} fault ≡ Err faults.TooLong → stream.HasTooMany i.left_before) →
      HasCause i.before i.now (failed {T = T} fault ≡ Err faults.InputFailed) → HasCause before now (failed {T = T} fault ≡ Err faults.OutputFailed) →
      RunsFrom {T = T} a e i old new before now (Err (refusal_by_stream fault input_name))
  ran_before faults.InputFailed f v o t c d = (o refl, c.failed refl, d.kept (λ e. cc))
  ran_before faults.OutputFailed f v o t c d = (f, d.failed refl, c.kept (λ e. cc))
  ran_before faults.TooLong f v o t c d = (v (λ e. cc), d.kept (λ e. cc), c.kept (λ e. cc), t refl, refl, refl)
  ran_before faults.Memory f v o t c d = (v (λ e. cc), d.kept (λ e. cc), c.kept (λ e. cc))

  pub ran_so : {T : Type 0} (fault : StreamFault) (file : List ℕ) (refusal : Refusal) (settings : Settings) → settings ≡ default_settings →
      file ≡ input_name → refusal ≡ refusal_by_stream fault file → stream.LeavesFront (machine a) settings e i.left_before old new →
      (failed {T = T} fault ≢ Err faults.OutputFailed → stream.LeavesEvents (machine a) settings e i.left_before old new) →
      (failed {T = T} fault ≡ Err faults.InputFailed → stream.LeavesOpen (machine a) settings e i.left_before i.left old new) →
      (failed {T = T} fault ≡ Err faults.TooLong → stream.HasTooMany i.left_before) →
      HasCause i.before i.now (failed {T = T} fault ≡ Err faults.InputFailed) → HasCause before now (failed {T = T} fault ≡ Err faults.OutputFailed) →
      RunsFrom {T = T} a e i old new before now (Err refusal)
  ran_so {T} fault file refusal settings here named is f v o t c d =
      let front = subst (λ x. stream.LeavesFront (machine a) x e i.left_before old new) here f in
      let told = ran_before {T = T} fault front (λ n. subst (λ x. stream.LeavesEvents (machine a) x e i.left_before old new) here (v n))
      (λ n. subst (λ x. stream.LeavesOpen (machine a) x e i.left_before i.left old new) here (o n)) t c d in
      subst (λ r. RunsFrom {T = T} a e i old new before now (Err r)) (sym (is ∙ ap (refusal_by_stream fault) named)) told

-- ---- the entry

not_none : (n : ℕ) → 1 ≤ n → n ≢ 0
not_none n low = λ e. omega arith

module _ (a : Arrays) (valid : Valid a) (name text : List ℕ) (i : Input) (old new : Option (List ℕ)) (before now : ℕ) (same : text ≡ name) where
  -- the tables have the entry
  pub found : {T : Type 0} (id : EntryId) (r : Result T Refusal) → slice_get a.entry_names id.0 ≡ Some text → IsEntryNumber a id.0 →
      RunsFrom a id.0 i old new before now r → RunsOver a name i old new before now r
  found id r at exists p =
      let number = entries.entry_is a valid (Some id) (Some name) name text refl same at exists in
      inl (subst (λ n. n ≢ 0) number (not_none id.0 exists.0), subst (λ n. RunsFrom a n i old new before now r) number p)

-- they have none of the name
pub not_found : (a : Arrays) (name text file : List ℕ) (i : Input) (old : Option (List ℕ)) (before : ℕ) → text ≡ name → file ≡ input_name →
    ((k : ℕ) → 1 ≤ k → slice_get a.entry_names k ≢ Some text) → IsUntouched i → RunsOver {T = Unit {0}} a name i old old before before (Err (refusals.Script no_entry file))
not_found a name text file i old before same named none untouched =
    inr ((entries.no_entry a (Some name) name text refl same none, refl, named), refl, refl, untouched)

pub wanting : (a : Arrays) (name : List ℕ) (i : Input) (old : Option (List ℕ)) (before : ℕ) → IsUntouched i → RunsOver {T = Unit {0}} a name i old old before before (Err refusals.Memory)
wanting a name i old before untouched = inr (tt, refl, refl, untouched)

-- ---- what is due

over_bytes : (P Q : List ℕ → Type 0) (left : Option (List ℕ)) → ((bytes : List ℕ) → P bytes → Q bytes) → OfBytes P left → OfBytes Q left
over_bytes P Q None f p = tt
over_bytes P Q (Some bytes) f p = f bytes p

-- entries that are named alike have the same numbers
pub number_alike : (names other : Names) (entry : List ℕ) → names.entries ≡ other.entries → number_in names entry ≡ number_in other entry
number_alike names other entry e = ap (λ es. unwrap_or (option_map (λ i. i + 1) (position (λ name. bytes_eq name entry) es)) 0) e

-- what the run from the entry on wrote is what the script writes that has all bytes at once
streams_by : (Gains : List ℕ → Type 0) (held : Held) (s : Streaming) (a : Arrays) (left : Option (List ℕ)) → Gives held None s.spec a → number_in (names_in a) s.entry ≢ 0 →
    OfBytes (λ bytes. Gains (lines_over (machine a) default_settings (number_in (names_in a) s.entry) bytes true)) left → Streams Gains held s left
streams_by Gains held s a left given known gains = by_file given
  where
    here : OfBytes (λ bytes. Gains (written_by a default_settings (script_over s.entry bytes))) left
    here = over_bytes _ _ left (λ bytes g. subst Gains (sym (one_run (names_in a) (machine a) default_settings input_name (Some s.entry) bytes)) g) gains

    by_file : Gives held None s.spec a → Streams Gains held s left
    by_file (inl (e, m)) = inl (record {
      by_name = e;
      source = m.source;
      has = m.has;
      known = subst (λ n. n ≢ 0) (number_alike (names_in a) (names_of m.source) s.entry m.made.entries) known;
      gains = λ tests honest. over_bytes _ _ left (λ bytes g. subst Gains (lines_prescribed m.source a m.made default_settings (script_over s.entry bytes) tests honest) g) here;
    })
    by_file (inr (e, p)) = inr (record { by_name = e; arrays = a; spelled = p; known = known; gains = here })

-- all bytes were read
read_to_end : (a : Arrays) (e : ℕ) (left after old new : Option (List ℕ)) → stream.Streams (machine a) default_settings e left after old new → OfBytes (λ bytes. after ≡ Some []) left
read_to_end a e None after old new p = tt
read_to_end a e (Some left) after old new p = p.0

whole_lines : (a : Arrays) (e : ℕ) (left after old new : Option (List ℕ)) → stream.Streams (machine a) default_settings e left after old new
    → OfBytes (λ bytes. Appends old new (lines_over (machine a) default_settings e bytes true)) left
whole_lines a e None after old new p = tt
whole_lines a e (Some left) after old new p = p.1

front_lines : (a : Arrays) (e : ℕ) (left old new : Option (List ℕ)) → stream.LeavesFront (machine a) default_settings e left old new
    → OfBytes (λ bytes. AppendsPrefix old new (lines_over (machine a) default_settings e bytes true)) left
front_lines a e None old new p = tt
front_lines a e (Some left) old new p = p

-- ---- the end

module _ (held : Held) (store_before store : ℕ) (old new : Option (List ℕ)) (before now : ℕ) (i : Input) (s : Streaming) where
  -- no tables, no run
  pub not_streamed : (e : Refusal) → HasNoTables held None s.spec store_before store e → new ≡ old → now ≡ before → IsUntouched i →
      EndsStreaming {T = Unit {0}} (outside held held store_before store old new before now) i (Err e) s
  not_streamed refusals.OutputFailed (inl p) t q u = absurd p.1
  not_streamed refusals.OutputFailed (inr p) t q u = absurd p.1
  not_streamed refusals.InputFailed (inl p) t q u = absurd p.1
  not_streamed refusals.InputFailed (inr p) t q u = absurd p.1
  not_streamed (refusals.Script fault file) (inl p) t q u = absurd p.1
  not_streamed (refusals.Script fault file) (inr p) t q u = absurd p.1
  not_streamed refusals.Memory p t q u = inl ((t, q), u)
  not_streamed (refusals.Limit limit file) p t q u = inl (p, (t, q), u)
  not_streamed _ p t q u = (p, (t, q), u)

  -- the run of the tables
  streamed_from : (a : Arrays) (r : Result (Unit {0}) Refusal) → Gives held None s.spec a → store ≡ store_before → number_in (names_in a) s.entry ≢ 0 →
      RunsFrom a (number_in (names_in a) s.entry) i old new before now r → EndsStreaming (outside held held store_before store old new before now) i r s
  streamed_from a (Ok done) g same known p =
      (streams_by (Appends old new) held s a i.left_before g known (whole_lines a _ i.left_before i.left old new p.0), read_to_end a _ i.left_before i.left old new p.0, (same, p.1), p.2)
  streamed_from a (Err refusals.OutputFailed) g same known p =
      (streams_by (AppendsPrefix old new) held s a i.left_before g known (front_lines a _ i.left_before old new p.0), p.1, same, p.2)
  streamed_from a (Err refusals.InputFailed) g same known p = ((a, g, (known, p.0)), p.1, (same, p.2))
  streamed_from a (Err refusals.Memory) g same known p = inr ((a, g, (known, p.0)), (same, p.1), p.2)
  streamed_from a (Err (refusals.Limit limit file)) g same known p = inr (((a, g, (known, p.0)), (same, p.1), p.2), p.3, p.4, p.5)
  streamed_from a (Err _) g same known p = absurd p

  not_run : (a : Arrays) (r : Result (Unit {0}) Refusal) → Gives held None s.spec a → store ≡ store_before → IsNotRun a s.entry r → new ≡ old → now ≡ before → IsUntouched i →
      EndsStreaming (outside held held store_before store old new before now) i r s
  not_run a (Ok done) g same p t q u = absurd p
  not_run a (Err (refusals.Script fault file)) g same p t q u = ((a, g, p.0), p.1, p.2, (t, q), same, u)
  not_run a (Err refusals.Memory) g same p t q u = inl ((t, q), u)
  not_run a (Err _) g same p t q u = absurd p

  pub streamed : (a : Arrays) (r : Result (Unit {0}) Refusal) → ReadsTables held None s.spec store_before store (Ok a) → RunsOver a s.entry i old new before now r →
      EndsStreaming (outside held held store_before store old new before now) i r s
  streamed a r reads (inl p) = streamed_from a r reads.0 reads.1 p.0 p.1
  streamed a r reads (inr p) = not_run a r reads.0 reads.1 p.0 p.1 p.2 p.3
