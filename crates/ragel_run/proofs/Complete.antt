-- A run that meets no fault ends as it is to end.
use Rattle.std.proofs.Common.{◌≡◌, ◌≢◌, ◌∙◌, ◌⊎◌, ◌<◌, ◌≤◌, arith, length, inl, inr, ℕ, true, false, List, Option, Some, None, Result, Ok, Err, IsSome, refl, sym, ap, subst}
use Rattle.std.proofs.lemmas.Bool.{false≢true}
use Rattle.rl_io.specs.Outside.{Held, Rose, Reads, Lacks, KeepsOthers}
use Rattle.rl_types.specs.declared.status.Status.{Status}
use Rattle.rl_types.specs.declared.status.Status.TheVariants as statuses
use Rattle.rl_run.specs.declared.sessions.Settings.{Settings}
use Rattle.rl_arrays.specs.declared.arrays.Arrays.{Arrays}
use Rattle.rl_cread.specs.declared.fault.TableFault.{TableFault}
use Rattle.rl_cread.specs.declared.fault.TableFault.TheVariants as marks
use Rattle.rl_cread.specs.Sections.{Explains}
use Rattle.rl_cread.proofs.Explained.{explained_once, explained_unread}
use Rattle.rl_includes.specs.declared.unrolled.Stop.{Stop}
use Rattle.rl_includes.specs.declared.unrolled.Stop.TheVariants as stop
use Rattle.rl_replay.specs.declared.script.Line.{Line}
use Rattle.rl_replay.specs.declared.script.ScriptFault.{ScriptFault}
use Rattle.rl_replay.specs.declared.script.ScriptFault.TheVariants as faults
use Rattle.rl_replay.specs.Sessions.{Names, script_of}
use Rattle.rl_script.specs.TableNames.{names_in}
use Rattle.rl_words.specs.Runs as words
use Rattle.rl_words.specs.Runs.{Run, is_printed}
use Rattle.rl_ends.specs.declared.refusal.Refusal.{Refusal}
use Rattle.rl_ends.specs.declared.refusal.Refusal.TheVariants as refusals
use Rattle.rl_ends.specs.Statuses.{status_of, status_by_section, status_by_script}
use Rattle.rl_ends.specs.Told.{Tells, line_of}
use Rattle.ragel_run.specs.Files.{IsSection, IsSpelled, IsMisspelled, Gives, IsFaulty}
use Rattle.ragel_run.specs.Replay.{Job, names_of, Replays, DueByFile, DueByStop, DueBySource, DueByPrinted, DueByScript, HasNoSource, HasNoSection, HasNoTables, HasTablesAlone, HasNoDue, HasNoLines, refusal_by}
use Rattle.ragel_run.specs.Upgrade.{Renewal, DueBySection, DueByRenewal}
use Rattle.ragel_run.specs.Made.{Making, Makes, DueByMaking}
use Rattle.rl_types.specs.Limits.{most_input_bytes}
use Rattle.rl_stream.specs.Lines.{input_name}
use Rattle.rl_stream.specs.Streams.{HasTooMany}
use Rattle.ragel_run.specs.Streamed.{Streaming, Input, IsUntouched, Streams, number_in, no_entry, DueByBytes, DueByEntry, DueByOpenSource, DueByOpenSection, DueByStreaming}
use Rattle.ragel_run.proofs.StreamSteps.{number_alike}
use Rattle.rl_model.specs.declared.spec.Spec.{Spec}
use Rattle.ragel_run.specs.Sources.{StopsByItself, IsUnresolved, Stops, HasSource}
use Rattle.ragel_run.specs.Ends.{Outside, Said, OfMachine, OfNothing, EndsReplay, EndsRenewal, EndsMaking, EndsStreaming, EndsAtWords, Ends, EndsWith, Due, HasNoFault, HasCause, IsStoppedBy, IsMissing, IsMisread, IsComplete, Answers}
use Rattle.ragel_run.proofs.MadeLaws.{made_names, same_entries, same_names, names_alike}
use Rattle.ragel_run.proofs.SourceLaws.{reads_same, lacks_not, spec_once, stops_once, stops_no_source, unfailed}

abbrev End : Type 0
End = Result (Unit {0}) Refusal

-- ---- what was found, with the tables that were spelled

abbrev FoundByPrinted : Held → Job → End → Type 0
FoundByPrinted held job e =
    (Lacks held job.spec × (e ≡ Err (refusals.Missing job.spec)))
    ⊎ ((fault : TableFault) × IsMisspelled held job.machine job.spec fault × (e ≡ Err (refusals.Section fault job.spec)))
    ⊎ ((a : Arrays) × IsSpelled held job.machine job.spec a × DueByScript held job.script (names_in a) e)

abbrev FoundByFile : Held → Job → End → Type 0
FoundByFile held job e = ((is_printed job.spec ≡ false) × DueBySource held job e) ⊎ ((is_printed job.spec ≡ true) × FoundByPrinted held job e)

abbrev FoundByNoSection : Held → Option (List ℕ) → List ℕ → End → Type 0
FoundByNoSection held machine spec e =
    (Lacks held spec × (e ≡ Err (refusals.Missing spec))) ⊎ ((fault : TableFault) × IsMisspelled held machine spec fault × (e ≡ Err (refusals.Section fault spec)))

abbrev FoundBySection : Held → Option (List ℕ) → List ℕ → End → Type 0
FoundBySection held machine spec e =
    (Lacks held spec × (e ≡ Err (refusals.Missing spec)))
    ⊎ ((fault : TableFault) × IsMisspelled held machine spec fault × (e ≡ Err (refusals.Section fault spec)))
    ⊎ ((a : Arrays) × IsSpelled held machine spec a × (e ≡ Ok tt))

abbrev FoundByRenewal : Held → Renewal → End → Type 0
FoundByRenewal held r e = FoundBySection held r.machine r.spec e

abbrev DueBySourceAlone : Held → Option (List ℕ) → List ℕ → End → Type 0
DueBySourceAlone held machine spec e = DueByStop held machine spec e ⊎ ((source : Spec) × HasSource held machine spec source × (e ≡ Ok tt))

abbrev FoundByMaking : Held → Making → End → Type 0
FoundByMaking held m e =
    ((is_printed m.spec ≡ false) × DueBySourceAlone held None m.spec e) ⊎ ((is_printed m.spec ≡ true) × FoundBySection held None m.spec e)

abbrev FoundByEntry : Names → List ℕ → Option (List ℕ) → End → Type 0
FoundByEntry names entry left e =
    ((number_in names entry ≡ 0) × (e ≡ Err (refusals.Script no_entry input_name))) ⊎ ((number_in names entry ≢ 0) × ((e ≡ Ok tt) ⊎ HasTooMany left))

abbrev FoundByOpenSource : Held → Streaming → Option (List ℕ) → End → Type 0
FoundByOpenSource held s left e = DueByStop held None s.spec e ⊎ ((source : Spec) × HasSource held None s.spec source × FoundByEntry (names_of source) s.entry left e)

abbrev FoundByOpenSection : Held → Streaming → Option (List ℕ) → End → Type 0
FoundByOpenSection held s left e =
    (Lacks held s.spec × (e ≡ Err (refusals.Missing s.spec)))
    ⊎ ((fault : TableFault) × IsMisspelled held None s.spec fault × (e ≡ Err (refusals.Section fault s.spec)))
    ⊎ ((a : Arrays) × IsSpelled held None s.spec a × FoundByEntry (names_in a) s.entry left e)

abbrev FoundByStreaming : Held → Streaming → Option (List ℕ) → End → Type 0
FoundByStreaming held s left e = ((is_printed s.spec ≡ false) × FoundByOpenSource held s left e) ⊎ ((is_printed s.spec ≡ true) × FoundByOpenSection held s left e)

abbrev Found : Held → Option (List ℕ) → Option Run → End → Type 0
Found held left said e =
    Said (λ job. FoundByFile held job e) (λ r. FoundByRenewal held r e) (λ m. FoundByMaking held m e) (λ s. FoundByStreaming held s left e) (e ≡ Err refusals.Usage) said

-- two things that are said of the same words
both : (P Q : Job → Type 0) (R S : Renewal → Type 0) (V W : Making → Type 0) (A B : Streaming → Type 0) (T U : Type 0) (X : Type 0) (said : Option Run) → ((job : Job) → P job → Q job → X) →
    ((r : Renewal) → R r → S r → X) → ((m : Making) → V m → W m → X) → ((s : Streaming) → A s → B s → X) → (T → U → X) → Said P R V A T said → Said Q S W B U said → X
both P Q R S V W A B T U X (Some (words.Replay m s spec script)) f g k l h a b = f (record { machine = m; settings = s; spec = spec; script = script }) a b
both P Q R S V W A B T U X (Some (words.Upgrade m out spec)) f g k l h a b = g (record { machine = m; out = out; spec = spec }) a b
both P Q R S V W A B T U X (Some (words.Make lines spec)) f g k l h a b = k (record { lines = lines; spec = spec }) a b
both P Q R S V W A B T U X (Some (words.Stream spec entry)) f g k l h a b = l (record { spec = spec; entry = entry }) a b
both P Q R S V W A B T U X None f g k l h a b = h a b

-- what follows in each form, or this
or_else : (P Q : Job → Type 0) (R S : Renewal → Type 0) (V W : Making → Type 0) (A B : Streaming → Type 0) (T U : Type 0) (M : Type 0) (said : Option Run) → ((job : Job) → P job → Q job ⊎ M) →
    ((r : Renewal) → R r → S r ⊎ M) → ((m : Making) → V m → W m ⊎ M) → ((s : Streaming) → A s → B s ⊎ M) → (T → U ⊎ M) → Said P R V A T said → Said Q S W B U said ⊎ M
or_else P Q R S V W A B T U M (Some (words.Replay m s spec script)) f g k l h a = f (record { machine = m; settings = s; spec = spec; script = script }) a
or_else P Q R S V W A B T U M (Some (words.Upgrade m out spec)) f g k l h a = g (record { machine = m; out = out; spec = spec }) a
or_else P Q R S V W A B T U M (Some (words.Make lines spec)) f g k l h a = k (record { lines = lines; spec = spec }) a
or_else P Q R S V W A B T U M (Some (words.Stream spec entry)) f g k l h a = l (record { spec = spec; entry = entry }) a
or_else P Q R S V W A B T U M None f g k l h a = h a

-- entries that are named alike
found_alike : (names other : Names) (entry : List ℕ) (left : Option (List ℕ)) (e : End) → names.entries ≡ other.entries → FoundByEntry names entry left e → FoundByEntry other entry left e
found_alike names other entry left e same p =
    subst (λ n. ((n ≡ 0) × (e ≡ Err (refusals.Script no_entry input_name))) ⊎ ((n ≢ 0) × ((e ≡ Ok tt) ⊎ HasTooMany left))) (number_alike names other entry same) p

not_many : (most n : ℕ) → n ≤ most → most < n → ⊥
not_many most n low high = omega arith

bytes_once : (left : Option (List ℕ)) (e f : End) → (e ≡ Ok tt) ⊎ HasTooMany left → DueByBytes left f → e ≡ f
bytes_once None e f p d = absurd d
bytes_once (Some bytes) e f (inl p) d = p ∙ sym d.1
bytes_once (Some bytes) e f (inr many) d = absurd (not_many most_input_bytes (length bytes) d.0 many)

entry_once : (names : Names) (entry : List ℕ) (left : Option (List ℕ)) (e f : End) → FoundByEntry names entry left e → DueByEntry names entry left f → e ≡ f
entry_once names entry left e f (inl a) (inl b) = a.1 ∙ sym b.1
entry_once names entry left e f (inl a) (inr b) = absurd (b.0 a.0)
entry_once names entry left e f (inr a) (inl b) = absurd (a.0 b.0)
entry_once names entry left e f (inr a) (inr b) = bytes_once left e f a.1 b.1

-- ---- there is one end

abbrev with_fault : ScriptFault → Result (List Line) ScriptFault
with_fault x = Err x

same_fault : (x y : ScriptFault) → with_fault x ≡ with_fault y → x ≡ y
same_fault x y e = cc

no_both : (lines : List Line) (x : ScriptFault) → Ok lines ≡ Err x → ⊥
no_both lines x e = cc

module _ (held : Held) (told : IsSome held) where
  -- texts under one name are one, and so is what they are as scripts
  same_script : (script : List ℕ) (names : Names) (t u : List ℕ) (r s : Result (List Line) ScriptFault) → Reads held script t → Reads held script u → script_of names t ≡ r → script_of names u ≡ s → r ≡ s
  same_script script names t u r s p q e f = sym e ∙ ap (script_of names) (reads_same held script t u told p q) ∙ f

  script_once : (script : List ℕ) (names : Names) (e f : End) → DueByScript held script names e → DueByScript held script names f → e ≡ f
  script_once script names e f (inl a) (inl b) = a.1 ∙ sym b.1
  script_once script names e f (inl a) (inr (inl b)) = absurd (lacks_not held script b.1.text told a.0 b.1.reads)
  script_once script names e f (inl a) (inr (inr b)) = absurd (lacks_not held script b.1.text told a.0 b.1.reads)
  script_once script names e f (inr (inl a)) (inl b) = absurd (lacks_not held script a.1.text told b.0 a.1.reads)
  script_once script names e f (inr (inl a)) (inr (inl b)) =
      let same = same_fault a.0 b.0 (same_script script names a.1.text b.1.text (Err a.0) (Err b.0) a.1.reads b.1.reads a.1.form b.1.form) in
      a.2 ∙ ap (λ x. Err (refusals.Script x script)) same ∙ sym b.2
  script_once script names e f (inr (inl a)) (inr (inr b)) =
      absurd (no_both b.0 a.0 (same_script script names b.1.text a.1.text (Ok b.0) (Err a.0) b.1.reads a.1.reads b.1.form a.1.form))
  script_once script names e f (inr (inr a)) (inl b) = absurd (lacks_not held script a.1.text told b.0 a.1.reads)
  script_once script names e f (inr (inr a)) (inr (inl b)) =
      absurd (no_both a.0 b.0 (same_script script names a.1.text b.1.text (Ok a.0) (Err b.0) a.1.reads b.1.reads a.1.form b.1.form))
  script_once script names e f (inr (inr a)) (inr (inr b)) = a.2 ∙ sym b.2

  -- by names that make no difference to any script, the same is due
  due_alike : (script : List ℕ) (names other : Names) → ((text : List ℕ) → script_of names text ≡ script_of other text) → (e : End) → DueByScript held script names e → DueByScript held script other e
  due_alike script names other alike e (inl a) = inl a
  due_alike script names other alike e (inr (inl a)) = inr (inl (a.0, record { text = a.1.text; reads = a.1.reads; form = sym (alike a.1.text) ∙ a.1.form }, a.2))
  due_alike script names other alike e (inr (inr a)) = inr (inr (a.0, record { text = a.1.text; reads = a.1.reads; form = sym (alike a.1.text) ∙ a.1.form }, a.2))

  source_once : (job : Job) (e f : End) → DueBySource held job e → DueBySource held job f → e ≡ f
  source_once job e f (inl a) (inl b) = a.2 ∙ ap (λ s. Err (refusal_by s)) (stops_once held told job.machine job.spec a.0 b.0 a.1 b.1) ∙ sym b.2
  source_once job e f (inl a) (inr b) = absurd (stops_no_source held told job.machine job.spec a.0 b.1.source a.1 b.1.has)
  source_once job e f (inr a) (inl b) = absurd (stops_no_source held told job.machine job.spec b.0 a.1.source b.1 a.1.has)
  source_once job e f (inr a) (inr b) =
      let same = spec_once held told job.machine job.spec a.1.source b.1.source a.1.has.named b.1.has.named in
      let named = same_names a.1.source b.1.source same a.0 a.1.named in
      script_once job.script b.0 e f (due_alike job.script a.0 b.0 (names_alike b.1.source a.0 b.0 b.1.tests named b.1.named) e a.2) b.2

  -- what a printed file spells, or how it is misspelled, is one
  faults_once : (machine : Option (List ℕ)) (spec text : List ℕ) (x y : TableFault) → IsMisspelled held machine spec x → Reads held spec text → (y ≡ marks.Memory → ⊥) → Explains machine text y → x ≡ y
  faults_once machine spec text x y m reads not explains =
      let here = subst (λ t. Explains machine t y) (reads_same held spec text m.text told reads m.reads) explains in
      explained_once machine m.text x y m.not_memory not m.explains here

  misspelled_not : (machine : Option (List ℕ)) (spec text : List ℕ) (x : TableFault) (a : Arrays) → IsMisspelled held machine spec x → Reads held spec text → IsSection machine text a → ⊥
  misspelled_not machine spec text x a m reads section = m.none a (subst (λ t. IsSection machine t a) (reads_same held spec text m.text told reads m.reads) section)

  spelled_not : (machine : Option (List ℕ)) (spec text : List ℕ) (a : Arrays) (y : TableFault) → IsSpelled held machine spec a → Reads held spec text → (y ≡ marks.Memory → ⊥) → Explains machine text y → ⊥
  spelled_not machine spec text a y s reads not explains =
      let here = subst (λ t. Explains machine t y) (reads_same held spec text s.text told reads s.reads) explains in
      explained_unread machine s.text y a not here s.spells s.fits s.valid

  spelled_once : (machine : Option (List ℕ)) (spec text : List ℕ) (a b : Arrays) → IsSpelled held machine spec a → Reads held spec text → IsSection machine text b → a ≡ b
  spelled_once machine spec text a b s reads section = s.alone b (subst (λ t. IsSection machine t b) (reads_same held spec text s.text told reads s.reads) section)

  printed_once : (job : Job) (e f : End) → FoundByPrinted held job e → DueByPrinted held job f → e ≡ f
  printed_once job e f (inl a) (inl b) = a.1 ∙ sym b.1
  printed_once job e f (inl a) (inr (inl b)) = absurd (lacks_not held job.spec b.0 told a.0 b.1)
  printed_once job e f (inl a) (inr (inr b)) = absurd (lacks_not held job.spec b.0 told a.0 b.1)
  printed_once job e f (inr (inl a)) (inl b) = absurd (lacks_not held job.spec a.1.text told b.0 a.1.reads)
  printed_once job e f (inr (inl a)) (inr (inl b)) =
      a.2 ∙ ap (λ x. Err (refusals.Section x job.spec)) (faults_once job.machine job.spec b.0 a.0 b.2 a.1 b.1 b.3 b.4) ∙ sym b.5
  printed_once job e f (inr (inl a)) (inr (inr b)) = absurd (misspelled_not job.machine job.spec b.0 a.0 b.2 a.1 b.1 b.3)
  printed_once job e f (inr (inr a)) (inl b) = absurd (lacks_not held job.spec a.1.text told b.0 a.1.reads)
  printed_once job e f (inr (inr a)) (inr (inl b)) = absurd (spelled_not job.machine job.spec b.0 a.0 b.2 a.1 b.1 b.3 b.4)
  printed_once job e f (inr (inr a)) (inr (inr b)) =
      let same = spelled_once job.machine job.spec b.0 a.0 b.2 a.1 b.1 b.3 in
      script_once job.script (names_in a.0) e f a.2 (subst (λ x. DueByScript held job.script (names_in x) f) (sym same) b.4)

  file_once : (job : Job) (e f : End) → FoundByFile held job e → DueByFile held job f → e ≡ f
  file_once job e f (inl a) (inl b) = source_once job e f a.1 b.1
  file_once job e f (inl a) (inr b) = absurd (false≢true (sym a.0 ∙ b.0))
  file_once job e f (inr a) (inl b) = absurd (false≢true (sym b.0 ∙ a.0))
  file_once job e f (inr a) (inr b) = printed_once job e f a.1 b.1

  section_once : (machine : Option (List ℕ)) (spec : List ℕ) (e f : End) → FoundBySection held machine spec e → DueBySection held machine spec f → e ≡ f
  section_once machine spec e f (inl a) (inl b) = a.1 ∙ sym b.1
  section_once machine spec e f (inl a) (inr (inl b)) = absurd (lacks_not held spec b.0 told a.0 b.1)
  section_once machine spec e f (inl a) (inr (inr b)) = absurd (lacks_not held spec b.0 told a.0 b.1)
  section_once machine spec e f (inr (inl a)) (inl b) = absurd (lacks_not held spec a.1.text told b.0 a.1.reads)
  section_once machine spec e f (inr (inl a)) (inr (inl b)) =
      a.2 ∙ ap (λ x. Err (refusals.Section x spec)) (faults_once machine spec b.0 a.0 b.2 a.1 b.1 b.3 b.4) ∙ sym b.5
  section_once machine spec e f (inr (inl a)) (inr (inr b)) = absurd (misspelled_not machine spec b.0 a.0 b.2 a.1 b.1 b.3)
  section_once machine spec e f (inr (inr a)) (inl b) = absurd (lacks_not held spec a.1.text told b.0 a.1.reads)
  section_once machine spec e f (inr (inr a)) (inr (inl b)) = absurd (spelled_not machine spec b.0 a.0 b.2 a.1 b.1 b.3 b.4)
  section_once machine spec e f (inr (inr a)) (inr (inr b)) = a.2 ∙ sym b.4

  source_alone_once : (machine : Option (List ℕ)) (spec : List ℕ) (e f : End) → DueBySourceAlone held machine spec e → DueBySourceAlone held machine spec f → e ≡ f
  source_alone_once machine spec e f (inl a) (inl b) = a.2 ∙ ap (λ s. Err (refusal_by s)) (stops_once held told machine spec a.0 b.0 a.1 b.1) ∙ sym b.2
  source_alone_once machine spec e f (inl a) (inr b) = absurd (stops_no_source held told machine spec a.0 b.0 a.1 b.1)
  source_alone_once machine spec e f (inr a) (inl b) = absurd (stops_no_source held told machine spec b.0 a.0 b.1 a.1)
  source_alone_once machine spec e f (inr a) (inr b) = a.2 ∙ sym b.2

  making_once : (m : Making) (e f : End) → FoundByMaking held m e → DueByMaking held m f → e ≡ f
  making_once m e f (inl a) (inl b) = source_alone_once None m.spec e f a.1 b.1
  making_once m e f (inl a) (inr b) = absurd (false≢true (sym a.0 ∙ b.0))
  making_once m e f (inr a) (inl b) = absurd (false≢true (sym b.0 ∙ a.0))
  making_once m e f (inr a) (inr b) = section_once None m.spec e f a.1 b.1

  open_source_once : (s : Streaming) (left : Option (List ℕ)) (e f : End) → FoundByOpenSource held s left e → DueByOpenSource held s left f → e ≡ f
  open_source_once s left e f (inl a) (inl b) = a.2 ∙ ap (λ x. Err (refusal_by x)) (stops_once held told None s.spec a.0 b.0 a.1 b.1) ∙ sym b.2
  open_source_once s left e f (inl a) (inr b) = absurd (stops_no_source held told None s.spec a.0 b.0 a.1 b.1)
  open_source_once s left e f (inr a) (inl b) = absurd (stops_no_source held told None s.spec b.0 a.0 b.1 a.1)
  open_source_once s left e f (inr a) (inr b) =
      let same = spec_once held told None s.spec a.0 b.0 a.1.named b.1.named in
      entry_once (names_of b.0) s.entry left e f (found_alike (names_of a.0) (names_of b.0) s.entry left e (same_entries a.0 b.0 same) a.2) b.2

  open_section_once : (s : Streaming) (left : Option (List ℕ)) (e f : End) → FoundByOpenSection held s left e → DueByOpenSection held s left f → e ≡ f
  open_section_once s left e f (inl a) (inl b) = a.1 ∙ sym b.1
  open_section_once s left e f (inl a) (inr (inl b)) = absurd (lacks_not held s.spec b.0 told a.0 b.1)
  open_section_once s left e f (inl a) (inr (inr b)) = absurd (lacks_not held s.spec b.0 told a.0 b.1)
  open_section_once s left e f (inr (inl a)) (inl b) = absurd (lacks_not held s.spec a.1.text told b.0 a.1.reads)
  open_section_once s left e f (inr (inl a)) (inr (inl b)) =
      a.2 ∙ ap (λ x. Err (refusals.Section x s.spec)) (faults_once None s.spec b.0 a.0 b.2 a.1 b.1 b.3 b.4) ∙ sym b.5
  open_section_once s left e f (inr (inl a)) (inr (inr b)) = absurd (misspelled_not None s.spec b.0 a.0 b.2 a.1 b.1 b.3)
  open_section_once s left e f (inr (inr a)) (inl b) = absurd (lacks_not held s.spec a.1.text told b.0 a.1.reads)
  open_section_once s left e f (inr (inr a)) (inr (inl b)) = absurd (spelled_not None s.spec b.0 a.0 b.2 a.1 b.1 b.3 b.4)
  open_section_once s left e f (inr (inr a)) (inr (inr b)) =
      let same = spelled_once None s.spec b.0 a.0 b.2 a.1 b.1 b.3 in
      entry_once (names_in b.2) s.entry left e f (subst (λ x. FoundByEntry (names_in x) s.entry left e) same a.2) b.4

  streaming_once : (s : Streaming) (left : Option (List ℕ)) (e f : End) → FoundByStreaming held s left e → DueByStreaming held s left f → e ≡ f
  streaming_once s left e f (inl a) (inl b) = open_source_once s left e f a.1 b.1
  streaming_once s left e f (inl a) (inr b) = absurd (false≢true (sym a.0 ∙ b.0))
  streaming_once s left e f (inr a) (inl b) = absurd (false≢true (sym b.0 ∙ a.0))
  streaming_once s left e f (inr a) (inr b) = open_section_once s left e f a.1 b.1

  due_once : (left : Option (List ℕ)) (said : Option Run) (e f : End) → Found held left said e → Due held left said f → e ≡ f
  due_once left said e f a b =
      both (λ job. FoundByFile held job e) (λ job. DueByFile held job f) (λ r. FoundByRenewal held r e) (λ r. DueByRenewal held r f)
      (λ m. FoundByMaking held m e) (λ m. DueByMaking held m f) (λ s. FoundByStreaming held s left e) (λ s. DueByStreaming held s left f) (e ≡ Err refusals.Usage) (f ≡ Err refusals.Usage) (e ≡ f) said
      (λ job. file_once job e f) (λ r. section_once r.machine r.spec e f) (λ m. making_once m e f) (λ s. streaming_once s left e f) (λ x y. x ∙ sym y) a b

-- ---- how it ended is found

-- where the store did not fail, a source's refusal is due
abbrev Parts : Held → Option (List ℕ) → List ℕ → ℕ → ℕ → Stop → Type 0
Parts held machine spec before now s = (StopsByItself held machine spec s × (now ≡ before)) ⊎ IsUnresolved (Rose before now) held machine spec s

of_parts : (held : Held) (machine : Option (List ℕ)) (spec : List ℕ) (before now : ℕ) (s : Stop) → (Rose before now → ⊥) → Parts held machine spec before now s → Stops ⊥ held machine spec s
of_parts held machine spec before now s not (inl a) = inl a.0
of_parts held machine spec before now s not (inr a) = inr (unfailed (Rose before now) held machine spec s not a)

-- what is found, or want of memory
abbrev OrMemory : Type 0 → End → Type 0
OrMemory Finds e = Finds ⊎ (status_of e ≡ statuses.Memory)

module _ (held : Held) (machine : Option (List ℕ)) (spec : List ℕ) (before now : ℕ) (not : Rose before now → ⊥) where
  by_no_source : (e : Refusal) → HasNoSource held machine spec before now e → OrMemory (DueByStop held machine spec (Err e)) (Err e)
  by_no_source (refusals.Fault f file) p = inl (stop.Fault f file, of_parts held machine spec before now (stop.Fault f file) not p, refl)
  by_no_source (refusals.Limit l file) p = inl (stop.Limit l file, of_parts held machine spec before now (stop.Limit l file) not p, refl)
  by_no_source (refusals.Missing file) p = inl (stop.Missing file, of_parts held machine spec before now (stop.Missing file) not p, refl)
  by_no_source (refusals.StoreFailed file) p = absurd (not p.0)
  by_no_source refusals.Memory p = inr refl
  by_no_source _ p = absurd p

  by_no_section : (e : Refusal) → HasNoSection held machine spec before now e → OrMemory (FoundByNoSection held machine spec (Err e)) (Err e)
  by_no_section (refusals.Missing file) p = inl (inl (p.0, ap (λ n. Err (refusals.Missing n)) p.1))
  by_no_section (refusals.StoreFailed file) p = absurd (not p.0)
  by_no_section (refusals.Section fault file) (inl memory, named, quiet) = inr (ap (λ x. status_by_section x) memory)
  by_no_section (refusals.Section fault file) (inr bad, named, quiet) = inl (inr (fault, bad, ap (λ n. Err (refusals.Section fault n)) named))
  by_no_section refusals.Memory p = inr refl
  by_no_section _ p = absurd p

module _ (held : Held) (job : Job) (before now : ℕ) (not : Rose before now → ⊥) where
  by_no_lines : (names : Names) (e : Refusal) → HasNoLines held job.script names before now e → OrMemory (DueByScript held job.script names (Err e)) (Err e)
  by_no_lines names (refusals.Missing file) p = inl (inl (p.0, ap (λ n. Err (refusals.Missing n)) p.1))
  by_no_lines names (refusals.StoreFailed file) p = absurd (not p.0)
  by_no_lines names (refusals.Script fault file) (inl memory, named, quiet) = inr (ap (λ x. status_by_script x) memory)
  by_no_lines names (refusals.Script fault file) (inr bad, named, quiet) = inl (inr (inl (fault, bad, ap (λ n. Err (refusals.Script fault n)) named)))
  by_no_lines names refusals.Memory p = inr refl
  by_no_lines names _ p = absurd p

  by_tables : (e : Refusal) → HasNoTables held job.machine job.spec before now e → OrMemory (FoundByFile held job (Err e)) (Err e)
  by_tables e (inl p) = elim (by_no_source held job.machine job.spec before now not e p.1) [ inl found ↦ inl (inl (p.0, inl found)) | inr memory ↦ inr memory ]
  by_tables e (inr p) =
      elim (by_no_section held job.machine job.spec before now not e p.1) [
        | inl (inl found) ↦ inl (inr (p.0, inl found))
        | inl (inr found) ↦ inl (inr (p.0, inr (inl found)))
        | inr memory ↦ inr memory
      ]

  given : (a : Arrays) (e : End) → Gives held job.machine job.spec a → DueByScript held job.script (names_in a) e → FoundByFile held job e
  given a e (inl g) d = inl (g.0, inr (names_in a, made_names held job.machine job.spec a g.1, d))
  given a e (inr g) d = inr (g.0, inr (inr (a, g.1, d)))

  by_lines : (e : Refusal) → HasTablesAlone held job before now e → OrMemory (FoundByFile held job (Err e)) (Err e)
  by_lines e p = elim (by_no_lines (names_in p.0) e p.2) [ inl found ↦ inl (given p.0 (Err e) p.1 found) | inr memory ↦ inr memory ]

  by_file : (e : Refusal) → HasNoDue held job before now e → OrMemory (FoundByFile held job (Err e)) (Err e)
  by_file e (inl p) = by_tables e p
  by_file e (inr p) = by_lines e p

-- the same of a run over an input that is made
by_made : (held : Held) (m : Making) (before now : ℕ) → (Rose before now → ⊥) → (e : Refusal) → HasNoTables held None m.spec before now e → OrMemory (FoundByMaking held m (Err e)) (Err e)
by_made held m before now not e (inl p) = elim (by_no_source held None m.spec before now not e p.1) [ inl found ↦ inl (inl (p.0, inl found)) | inr memory ↦ inr memory ]
by_made held m before now not e (inr p) =
    elim (by_no_section held None m.spec before now not e p.1) [
      | inl (inl found) ↦ inl (inr (p.0, inl found))
      | inl (inr found) ↦ inl (inr (p.0, inr (inl found)))
      | inr memory ↦ inr memory
    ]

made_found : (held : Held) (m : Making) (a : Arrays) → Gives held None m.spec a → FoundByMaking held m (Ok tt)
made_found held m a (inl g) = inl (g.0, inr (g.1.source, g.1.has, refl))
made_found held m a (inr g) = inr (g.0, inr (inr (a, g.1, refl)))

-- and of one over the standard input
by_streamed : (held : Held) (s : Streaming) (left : Option (List ℕ)) (before now : ℕ) → (Rose before now → ⊥) → (e : Refusal) → HasNoTables held None s.spec before now e →
    OrMemory (FoundByStreaming held s left (Err e)) (Err e)
by_streamed held s left before now not e (inl p) = elim (by_no_source held None s.spec before now not e p.1) [ inl found ↦ inl (inl (p.0, inl found)) | inr memory ↦ inr memory ]
by_streamed held s left before now not e (inr p) =
    elim (by_no_section held None s.spec before now not e p.1) [
      | inl (inl found) ↦ inl (inr (p.0, inl found))
      | inl (inr found) ↦ inl (inr (p.0, inr (inl found)))
      | inr memory ↦ inr memory
    ]

by_arrays : (held : Held) (s : Streaming) (left : Option (List ℕ)) (a : Arrays) (e : End) → Gives held None s.spec a → FoundByEntry (names_in a) s.entry left e → FoundByStreaming held s left e
by_arrays held s left a e (inl g) p = inl (g.0, inr (g.1.source, g.1.has, found_alike (names_in a) (names_of g.1.source) s.entry left e g.1.made.entries p))
by_arrays held s left a e (inr g) p = inr (g.0, inr (inr (a, g.1, p)))

all_found : (Gains : List ℕ → Type 0) (held : Held) (s : Streaming) (left : Option (List ℕ)) → Streams Gains held s left → FoundByStreaming held s left (Ok tt)
all_found Gains held s left (inl r) = inl (r.by_name, inr (r.source, r.has, inr (r.known, inl refl)))
all_found Gains held s left (inr r) = inr (r.by_name, inr (inr (r.arrays, r.spelled, inr (r.known, inl refl))))

done_found : (Gains : List ℕ → Type 0) (held : Held) (job : Job) → Replays Gains held job → FoundByFile held job (Ok tt)
done_found Gains held job (inl r) = inl (r.by_name, inr (r.names, r.has, inr (inr (r.lines, r.admitted, refl))))
done_found Gains held job (inr r) = inr (r.by_name, inr (inr (r.arrays, r.spelled, inr (inr (r.lines, r.admitted, refl)))))

module _ (o : Outside) (i : Input) (n : HasNoFault o i) where
  replay_found : (job : Job) (e : End) → EndsReplay o e job → OrMemory (FoundByFile o.held job e) e
  replay_found job (Ok tt) p = inl (done_found _ o.held job p.0)
  replay_found job (Err refusals.OutputFailed) p = absurd (n.output p.1)
  replay_found job (Err refusals.Memory) p = inr refl
  replay_found job (Err refusals.Usage) p = by_file o.held job o.store_before o.store n.store refusals.Usage p.0
  replay_found job (Err (refusals.Fault f file)) p = by_file o.held job o.store_before o.store n.store (refusals.Fault f file) p.0
  replay_found job (Err (refusals.Limit f file)) p = by_file o.held job o.store_before o.store n.store (refusals.Limit f file) p.0
  replay_found job (Err (refusals.Missing file)) p = by_file o.held job o.store_before o.store n.store (refusals.Missing file) p.0
  replay_found job (Err (refusals.StoreFailed file)) p = by_file o.held job o.store_before o.store n.store (refusals.StoreFailed file) p.0
  replay_found job (Err (refusals.Section f file)) p = by_file o.held job o.store_before o.store n.store (refusals.Section f file) p.0
  replay_found job (Err (refusals.Script f file)) p = by_file o.held job o.store_before o.store n.store (refusals.Script f file) p.0
  replay_found job (Err refusals.InputFailed) p = by_file o.held job o.store_before o.store n.store refusals.InputFailed p.0

  renewal_found : (r : Renewal) (e : End) → EndsRenewal o e r → OrMemory (FoundByRenewal o.held r e) e
  renewal_found r (Ok tt) p = inl (inr (inr (p.0.arrays, p.0.spelled, refl)))
  renewal_found r (Err (refusals.StoreFailed file)) p = absurd (n.store p.0.0)
  renewal_found r (Err (refusals.Missing file)) p = inl (inl (p.0.0.0, ap (λ n. Err (refusals.Missing n)) p.0.0.1))
  renewal_found r (Err (refusals.Section fault file)) (((inl memory, named, quiet), same), silent) = inr (ap (λ x. status_by_section x) memory)
  renewal_found r (Err (refusals.Section fault file)) (((inr bad, named, quiet), same), silent) = inl (inr (inl (fault, bad, ap (λ n. Err (refusals.Section fault n)) named)))
  renewal_found r (Err refusals.Memory) p = inr refl
  renewal_found r (Err refusals.Usage) p = absurd p.0.0
  renewal_found r (Err (refusals.Fault f file)) p = absurd p.0.0
  renewal_found r (Err (refusals.Limit f file)) p = absurd p.0.0
  renewal_found r (Err (refusals.Script f file)) p = absurd p.0.0
  renewal_found r (Err refusals.InputFailed) p = absurd p.0.0
  renewal_found r (Err refusals.OutputFailed) p = absurd p.0.0

  making_found : (m : Making) (e : End) → EndsMaking o e m → OrMemory (FoundByMaking o.held m e) e
  making_found m (Ok tt) p = inl (made_found o.held m p.0.arrays p.0.given)
  making_found m (Err refusals.OutputFailed) p = absurd (n.output p.1)
  making_found m (Err refusals.Memory) p = inr refl
  making_found m (Err refusals.Usage) p = by_made o.held m o.store_before o.store n.store refusals.Usage p.0
  making_found m (Err (refusals.Fault f file)) p = by_made o.held m o.store_before o.store n.store (refusals.Fault f file) p.0
  making_found m (Err (refusals.Limit l file)) p = by_made o.held m o.store_before o.store n.store (refusals.Limit l file) p.0
  making_found m (Err (refusals.Missing file)) p = by_made o.held m o.store_before o.store n.store (refusals.Missing file) p.0
  making_found m (Err (refusals.StoreFailed file)) p = by_made o.held m o.store_before o.store n.store (refusals.StoreFailed file) p.0
  making_found m (Err (refusals.Section f file)) p = by_made o.held m o.store_before o.store n.store (refusals.Section f file) p.0
  making_found m (Err (refusals.Script f file)) p = by_made o.held m o.store_before o.store n.store (refusals.Script f file) p.0
  making_found m (Err refusals.InputFailed) p = by_made o.held m o.store_before o.store n.store refusals.InputFailed p.0

  streamed_found : (s : Streaming) (e : End) → EndsStreaming o i e s → OrMemory (FoundByStreaming o.held s i.left_before e) e
  streamed_found s (Ok tt) p = inl (all_found _ o.held s i.left_before p.0)
  streamed_found s (Err refusals.OutputFailed) p = absurd (n.output p.1)
  streamed_found s (Err refusals.InputFailed) p = absurd (n.input p.1)
  streamed_found s (Err refusals.Memory) p = inr refl
  streamed_found s (Err (refusals.Script fault file)) p =
      inl (by_arrays o.held s i.left_before p.0.0 (Err (refusals.Script fault file)) p.0.1
      (inl (p.0.2, ap (λ x. Err (refusals.Script x file)) p.1 ∙ ap (λ x. Err (refusals.Script no_entry x)) p.2)))
  streamed_found s (Err (refusals.Limit l file)) (inl p) = by_streamed o.held s i.left_before o.store_before o.store n.store (refusals.Limit l file) p.0
  streamed_found s (Err (refusals.Limit l file)) (inr p) =
      inl (by_arrays o.held s i.left_before p.0.0.0 (Err (refusals.Limit l file)) p.0.0.1 (inr (p.0.0.2.0, inr p.1)))
  streamed_found s (Err refusals.Usage) p = by_streamed o.held s i.left_before o.store_before o.store n.store refusals.Usage p.0
  streamed_found s (Err (refusals.Fault f file)) p = by_streamed o.held s i.left_before o.store_before o.store n.store (refusals.Fault f file) p.0
  streamed_found s (Err (refusals.Missing file)) p = by_streamed o.held s i.left_before o.store_before o.store n.store (refusals.Missing file) p.0
  streamed_found s (Err (refusals.StoreFailed file)) p = by_streamed o.held s i.left_before o.store_before o.store n.store (refusals.StoreFailed file) p.0
  streamed_found s (Err (refusals.Section f file)) p = by_streamed o.held s i.left_before o.store_before o.store n.store (refusals.Section f file) p.0

  words_found : (e : End) → EndsAtWords o e → OrMemory (e ≡ Err refusals.Usage) e
  words_found (Ok tt) p = absurd p
  words_found (Err refusals.Usage) p = inl refl
  words_found (Err refusals.Memory) p = inr refl
  words_found (Err _) p = absurd p

  ends_found : (said : Option Run) (e : End) → Ends o i said e → OrMemory (Found o.held i.left_before said e) e
  ends_found said e p =
      or_else (λ job. EndsReplay o e job × (o.holds ≡ o.held) × IsUntouched i) (λ job. FoundByFile o.held job e) (λ r. EndsRenewal o e r × KeepsOthers o.held o.holds r.out × IsUntouched i)
      (λ r. FoundByRenewal o.held r e) (λ m. EndsMaking o e m × (o.holds ≡ o.held) × IsUntouched i) (λ m. FoundByMaking o.held m e)
      (λ s. EndsStreaming o i e s × (o.holds ≡ o.held)) (λ s. FoundByStreaming o.held s i.left_before e)
      (EndsAtWords o e × (o.holds ≡ o.held) × IsUntouched i) (e ≡ Err refusals.Usage) (status_of e ≡ statuses.Memory) said
      (λ job q. replay_found job e q.0) (λ r q. renewal_found r e q.0) (λ m q. making_found m e q.0) (λ s q. streamed_found s e q.0) (λ q. words_found e q.0) p

pub complete : (o : Outside) (i : Input) (said : Option Run) (old new : Option (List ℕ)) (before now : ℕ) (status : Status) → EndsWith o i said old new before now status → IsComplete o i said old new before now status
complete o i said old new before now status w n end due = elim (ends_found o i n said w.0 w.1) [
  | inl found ↦ let same = due_once o.held n.told i.left_before said w.0 end found due in
      inl (w.2 ∙ ap (λ e. status_of e) same, subst (λ e. Tells old new before now (line_of e)) same w.3)
  | inr memory ↦ inr (w.2 ∙ memory)
]

-- ---- causes

-- how a file that gives no tables is told in a cause, by words that name it and its machine
module _ (o : Outside) (i : Input) (said : Option Run) (machine : Option (List ℕ)) (spec : List ℕ) (of : (P : Option (List ℕ) → List ℕ → Type 0) → P machine spec → OfMachine P said) where
  stopped_of : (s : Stop) → is_printed spec ≡ false → Parts o.held machine spec o.store_before o.store s → IsStoppedBy o s machine spec
  stopped_of s e (inl a) = (e, inl a.0)
  stopped_of s e (inr a) = (e, inr a)

  no_source_cause : (e : Refusal) → is_printed spec ≡ false → HasNoSource o.held machine spec o.store_before o.store e → HasCause o i said (status_of {T = Unit {0}} (Err e))
  no_source_cause (refusals.Fault f file) b p = (f, file, of (IsStoppedBy o (stop.Fault f file)) (stopped_of (stop.Fault f file) b p))
  no_source_cause (refusals.Limit l file) b p = inl (l, file, of (IsStoppedBy o (stop.Limit l file)) (stopped_of (stop.Limit l file) b p))
  no_source_cause (refusals.Missing file) b p = inr (inr (inl (of (IsMissing o) (inl (file, stopped_of (stop.Missing file) b p)))))
  no_source_cause (refusals.StoreFailed file) b p = inl p.0
  no_source_cause refusals.Memory b p = tt
  no_source_cause _ b p = absurd p

  misread : (fault : TableFault) → is_printed spec ≡ true → IsMisspelled o.held machine spec fault → HasCause o i said statuses.Tables
  misread fault b p = inl (of (λ machine spec. (is_printed spec ≡ true) × IsMisread o machine spec) (b, (fault, p)))

  section_cause : (fault : TableFault) → is_printed spec ≡ true → (fault ≡ marks.Memory) ⊎ IsMisspelled o.held machine spec fault → HasCause o i said (status_by_section fault)
  section_cause marks.Memory b p = tt
  section_cause marks.NoSection b (inl e) = absurd (cc e)
  section_cause marks.NoSection b (inr p) = misread marks.NoSection b p
  section_cause (marks.BadText line) b (inl e) = absurd (cc e)
  section_cause (marks.BadText line) b (inr p) = misread (marks.BadText line) b p
  section_cause (marks.BadValue bad) b (inl e) = absurd (cc e)
  section_cause (marks.BadValue bad) b (inr p) = misread (marks.BadValue bad) b p

  no_section_cause : (e : Refusal) → is_printed spec ≡ true → HasNoSection o.held machine spec o.store_before o.store e → HasCause o i said (status_of {T = Unit {0}} (Err e))
  no_section_cause (refusals.Missing file) b p = inr (inr (inl (of (IsMissing o) (inr (b, p.0)))))
  no_section_cause (refusals.StoreFailed file) b p = inl p.0
  no_section_cause (refusals.Section fault file) b p = section_cause fault b p.0
  no_section_cause refusals.Memory b p = tt
  no_section_cause _ b p = absurd p

  no_tables_cause : (e : Refusal) → HasNoTables o.held machine spec o.store_before o.store e → HasCause o i said (status_of {T = Unit {0}} (Err e))
  no_tables_cause e (inl p) = no_source_cause e p.0 p.1
  no_tables_cause e (inr p) = no_section_cause e p.0 p.1

-- how each refusal of a replay is told in a cause
module _ (o : Outside) (i : Input) (machine : Option (List ℕ)) (settings : Settings) (spec script : List ℕ) where
  abbrev job : Job
  job = record { machine = machine; settings = settings; spec = spec; script = script }

  abbrev said : Option Run
  said = Some (words.Replay machine settings spec script)

  faulty : (a : Arrays) → Gives o.held machine spec a → (fault : ScriptFault) → (fault ≡ faults.Memory → ⊥) → (fault ≡ faults.Memory) ⊎ IsFaulty o.held script (names_in a) fault → HasCause o i said statuses.Script
  faulty a g fault not (inl memory) = absurd (not memory)
  faulty a g fault not (inr p) = inl (a, g, fault, p)

  script_cause : (a : Arrays) → Gives o.held machine spec a → (fault : ScriptFault) → (fault ≡ faults.Memory) ⊎ IsFaulty o.held script (names_in a) fault → HasCause o i said (status_by_script fault)
  script_cause a g (faults.BadLine n) p = faulty a g (faults.BadLine n) (λ e. cc) p
  script_cause a g (faults.Twice n) p = faulty a g (faults.Twice n) (λ e. cc) p
  script_cause a g (faults.NoSession n) p = faulty a g (faults.NoSession n) (λ e. cc) p
  script_cause a g (faults.NoEntry n) p = faulty a g (faults.NoEntry n) (λ e. cc) p
  script_cause a g (faults.NoName n) p = faulty a g (faults.NoName n) (λ e. cc) p
  script_cause a g (faults.Full n) p = faulty a g (faults.Full n) (λ e. cc) p
  script_cause a g faults.Memory p = tt

  no_lines_cause : (a : Arrays) → Gives o.held machine spec a → (e : Refusal) → HasNoLines o.held script (names_in a) o.store_before o.store e → HasCause o i said (status_of {T = Unit {0}} (Err e))
  no_lines_cause a g (refusals.Missing file) p = inr (inr (inr (inl p.0)))
  no_lines_cause a g (refusals.StoreFailed file) p = inl p.0
  no_lines_cause a g (refusals.Script fault file) p = script_cause a g fault p.0
  no_lines_cause a g refusals.Memory p = tt
  no_lines_cause a g _ p = absurd p

  file_cause : (e : Refusal) → HasNoDue o.held job o.store_before o.store e → HasCause o i said (status_of {T = Unit {0}} (Err e))
  file_cause e (inl p) = no_tables_cause o i said machine spec (λ P q. q) e p
  file_cause e (inr p) = no_lines_cause p.0 p.1 e p.2

  replay_cause : (e : End) → EndsReplay o e job → i.now ≡ i.before → HasCause o i said (status_of e)
  replay_cause (Ok tt) p q = (inl p.0, p.1, q)
  replay_cause (Err refusals.OutputFailed) p q = inr (inl p.1)
  replay_cause (Err refusals.Memory) p q = tt
  replay_cause (Err refusals.Usage) p q = file_cause refusals.Usage p.0
  replay_cause (Err (refusals.Fault f file)) p q = file_cause (refusals.Fault f file) p.0
  replay_cause (Err (refusals.Limit f file)) p q = file_cause (refusals.Limit f file) p.0
  replay_cause (Err (refusals.Missing file)) p q = file_cause (refusals.Missing file) p.0
  replay_cause (Err (refusals.StoreFailed file)) p q = file_cause (refusals.StoreFailed file) p.0
  replay_cause (Err (refusals.Section f file)) p q = file_cause (refusals.Section f file) p.0
  replay_cause (Err (refusals.Script f file)) p q = file_cause (refusals.Script f file) p.0
  replay_cause (Err refusals.InputFailed) p q = file_cause refusals.InputFailed p.0

-- the same of an upgrade
module _ (o : Outside) (i : Input) (machine : Option (List ℕ)) (out spec : List ℕ) where
  abbrev renewal : Renewal
  renewal = record { machine = machine; out = out; spec = spec }

  abbrev upgrade : Option Run
  upgrade = Some (words.Upgrade machine out spec)

  misread_cause : (fault : TableFault) → (fault ≡ marks.Memory) ⊎ IsMisspelled o.held machine spec fault → HasCause o i upgrade (status_by_section fault)
  misread_cause marks.Memory p = tt
  misread_cause marks.NoSection (inl e) = absurd (cc e)
  misread_cause marks.NoSection (inr p) = inr (marks.NoSection, p)
  misread_cause (marks.BadText line) (inl e) = absurd (cc e)
  misread_cause (marks.BadText line) (inr p) = inr (marks.BadText line, p)
  misread_cause (marks.BadValue bad) (inl e) = absurd (cc e)
  misread_cause (marks.BadValue bad) (inr p) = inr (marks.BadValue bad, p)

  renewal_cause : (e : End) → EndsRenewal o e renewal → i.now ≡ i.before → HasCause o i upgrade (status_of e)
  renewal_cause (Ok tt) p q = (inr (inl p.0), (p.2, p.1.1), q)
  renewal_cause (Err (refusals.StoreFailed file)) p q = inl p.0.0
  renewal_cause (Err (refusals.Missing file)) p q = inr (inr (inr (inr (inl p.0.0.0))))
  renewal_cause (Err (refusals.Section fault file)) p q = misread_cause fault p.0.0.0
  renewal_cause (Err refusals.Memory) p q = tt
  renewal_cause (Err refusals.Usage) p q = absurd p.0.0
  renewal_cause (Err (refusals.Fault f file)) p q = absurd p.0.0
  renewal_cause (Err (refusals.Limit f file)) p q = absurd p.0.0
  renewal_cause (Err (refusals.Script f file)) p q = absurd p.0.0
  renewal_cause (Err refusals.InputFailed) p q = absurd p.0.0
  renewal_cause (Err refusals.OutputFailed) p q = absurd p.0.0

-- the same of an input that is made
making_cause : (o : Outside) (i : Input) (lines : ℕ) (spec : List ℕ) (e : End) → EndsMaking o e (record { lines = lines; spec = spec }) → i.now ≡ i.before → HasCause o i (Some (words.Make lines spec)) (status_of e)
making_cause o i lines spec (Ok tt) p q = (inr (inr (inl p.0)), p.1, q)
making_cause o i lines spec (Err refusals.OutputFailed) p q = inr (inl p.1)
making_cause o i lines spec (Err refusals.Memory) p q = tt
making_cause o i lines spec (Err refusals.Usage) p q = no_tables_cause o i (Some (words.Make lines spec)) None spec (λ P q. q) refusals.Usage p.0
making_cause o i lines spec (Err (refusals.Fault f file)) p q = no_tables_cause o i (Some (words.Make lines spec)) None spec (λ P q. q) (refusals.Fault f file) p.0
making_cause o i lines spec (Err (refusals.Limit l file)) p q = no_tables_cause o i (Some (words.Make lines spec)) None spec (λ P q. q) (refusals.Limit l file) p.0
making_cause o i lines spec (Err (refusals.Missing file)) p q = no_tables_cause o i (Some (words.Make lines spec)) None spec (λ P q. q) (refusals.Missing file) p.0
making_cause o i lines spec (Err (refusals.StoreFailed file)) p q = no_tables_cause o i (Some (words.Make lines spec)) None spec (λ P q. q) (refusals.StoreFailed file) p.0
making_cause o i lines spec (Err (refusals.Section f file)) p q = no_tables_cause o i (Some (words.Make lines spec)) None spec (λ P q. q) (refusals.Section f file) p.0
making_cause o i lines spec (Err (refusals.Script f file)) p q = no_tables_cause o i (Some (words.Make lines spec)) None spec (λ P q. q) (refusals.Script f file) p.0
making_cause o i lines spec (Err refusals.InputFailed) p q = no_tables_cause o i (Some (words.Make lines spec)) None spec (λ P q. q) refusals.InputFailed p.0

-- the same of the standard input
streaming_cause : (o : Outside) (i : Input) (spec entry : List ℕ) (e : End) → EndsStreaming o i e (record { spec = spec; entry = entry }) → HasCause o i (Some (words.Stream spec entry)) (status_of e)
streaming_cause o i spec entry (Ok tt) p = (inr (inr (inr (p.0, p.1))), p.2, p.3)
streaming_cause o i spec entry (Err refusals.OutputFailed) p = inr (inl p.1)
streaming_cause o i spec entry (Err refusals.InputFailed) p = inr (inr (inr (inr (inr (p.1, tt)))))
streaming_cause o i spec entry (Err refusals.Memory) p = tt
streaming_cause o i spec entry (Err (refusals.Script fault file)) p = subst (λ x. HasCause o i (Some (words.Stream spec entry)) (status_by_script x)) (sym p.1) (inr p.0)
streaming_cause o i spec entry (Err (refusals.Limit l file)) (inl p) = no_tables_cause o i (Some (words.Stream spec entry)) None spec (λ P q. q) (refusals.Limit l file) p.0
streaming_cause o i spec entry (Err (refusals.Limit l file)) (inr p) = inr p.1
streaming_cause o i spec entry (Err refusals.Usage) p = no_tables_cause o i (Some (words.Stream spec entry)) None spec (λ P q. q) refusals.Usage p.0
streaming_cause o i spec entry (Err (refusals.Fault f file)) p = no_tables_cause o i (Some (words.Stream spec entry)) None spec (λ P q. q) (refusals.Fault f file) p.0
streaming_cause o i spec entry (Err (refusals.Missing file)) p = no_tables_cause o i (Some (words.Stream spec entry)) None spec (λ P q. q) (refusals.Missing file) p.0
streaming_cause o i spec entry (Err (refusals.StoreFailed file)) p = no_tables_cause o i (Some (words.Stream spec entry)) None spec (λ P q. q) (refusals.StoreFailed file) p.0
streaming_cause o i spec entry (Err (refusals.Section f file)) p = no_tables_cause o i (Some (words.Stream spec entry)) None spec (λ P q. q) (refusals.Section f file) p.0

-- the same of words that say nothing
words_cause : (o : Outside) (i : Input) (said : Option Run) (e : End) → OfNothing (Unit {0}) said → EndsAtWords o e → HasCause o i said (status_of e)
words_cause o i w (Ok tt) n p = absurd p
words_cause o i w (Err refusals.Usage) n p = n
words_cause o i w (Err refusals.Memory) n p = tt
words_cause o i w (Err _) n p = absurd p

-- an end has its cause
ends_cause : (o : Outside) (i : Input) (said : Option Run) (e : End) → Ends o i said e → HasCause o i said (status_of e)
ends_cause o i (Some (words.Replay m s spec script)) e p = replay_cause o i m s spec script e p.0 p.2.1
ends_cause o i (Some (words.Upgrade m out spec)) e p = renewal_cause o i m out spec e p.0 p.2.1
ends_cause o i (Some (words.Make lines spec)) e p = making_cause o i lines spec e p.0 p.2.1
ends_cause o i (Some (words.Stream spec entry)) e p = streaming_cause o i spec entry e p.0
ends_cause o i None e p = words_cause o i None e tt p.0

cause : (o : Outside) (i : Input) (said : Option Run) (old new : Option (List ℕ)) (before now : ℕ) (status : Status) → EndsWith o i said old new before now status → HasCause o i said status
cause o i said old new before now status w = subst (HasCause o i said) (sym w.2) (ends_cause o i said w.0 w.1)

-- ---- the answer

pub answers : (o : Outside) (i : Input) (said : Option Run) (old new : Option (List ℕ)) (before now : ℕ) (status : Status) → EndsWith o i said old new before now status → Answers o i said old new before now status
answers o i said old new before now status w =
    record { cause = cause o i said old new before now status w; ends = w; complete = complete o i said old new before now status w }
