-- How the steps of a run put together say how it ends.
use Rattle.std.proofs.Common.{◌≡◌, ◌∙◌, inl, inr, ℕ, List, Option, Some, None, Result, Ok, Err, refl, sym, ap, subst}
use Rattle.rl_io.specs.Outside.{Held, Appends, AppendsPrefix, Writes, KeepsOthers}
use Rattle.rl_arrays.specs.declared.arrays.Arrays.{Arrays}
use Rattle.rl_io.specs.declared.outside.SinkFault.{SinkFault}
use Rattle.rl_io.specs.declared.outside.SinkFault.TheVariants as sink
use Rattle.rl_types.specs.declared.status.Status.{Status}
use Rattle.rl_replay.specs.declared.script.Line.{Line}
use Rattle.rl_script.specs.TableNames.{names_in}
use Rattle.rl_words.specs.Runs as words
use Rattle.rl_words.specs.Runs.{Run, run_of}
use Rattle.rl_words.specs.Told.{texts, RefusesWords}
use Rattle.rl_words.specs.declared.fault.WordsFault.{WordsFault}
use Rattle.rl_words.specs.declared.fault.WordsFault.TheVariants as words_fault
use denote.Ref.{Bor}
use Rattle.rl_ends.specs.declared.refusal.Refusal.{Refusal}
use Rattle.rl_ends.specs.declared.refusal.Refusal.TheVariants as refusals
use Rattle.rl_ends.specs.Told.{Tells, TellsAs, line_of}
use Rattle.ragel_run.specs.Files.{Gives, HasScript}
use Rattle.ragel_run.specs.Replay.{Job, Replays, HasNoSection, HasNoTables, HasNoDue, written_by}
use Rattle.ragel_run.specs.Upgrade.{Renewal, HasNoRenewal}
use Rattle.ragel_run.specs.Made.{Making, Makes}
use Rattle.rl_made.specs.Made.{made_text}
use Rattle.rl_playback.specs.Defaults.{default_settings}
use Rattle.ragel_run.specs.Reads.{ReadsSection, ReadsTables, GivesLines, GivesDue, GivesMade, WritesLines, WritesFile, IsNewSection, UpgradesAs}
use Rattle.ragel_run.specs.Streamed.{Input, IsUntouched}
use Rattle.ragel_run.specs.Ends.{Outside, outside, IsSilent, EndsReplay, EndsRenewal, EndsMaking, Ends, EndsTelling, EndsWith}
use Rattle.ragel_run.proofs.MadeLaws.{made_names}
use Rattle.ragel_run.proofs.Prescribed.{lines_prescribed}

-- ---- a replay

-- the lines that tables write are due
replays_by : (held : Held) (job : Job) (a : Arrays) (lines : List Line) (items : List ℕ) → Gives held job.machine job.spec a → HasScript held job.script (names_in a) lines
    → items ≡ written_by a job.settings lines → Replays (λ due. items ≡ due) held job
replays_by held job a lines items (inl (e, m)) h same = inl (record {
  by_name = e;
  names = names_in a;
  has = made_names held job.machine job.spec a m;
  lines = lines;
  admitted = h;
  gains = λ tests honest. same ∙ lines_prescribed m.source a m.made job.settings lines tests honest;
})
replays_by held job a lines items (inr (e, s)) h same = inr (record { by_name = e; arrays = a; spelled = s; lines = lines; admitted = h; gains = same })

-- the same by what stood before the tables were read
pub lines_given : (held mid_held : Held) (job : Job) (a : Arrays) (before mid now : ℕ) (r : Result (List ℕ) Refusal) → mid_held ≡ held →
    ReadsTables held job.machine job.spec before mid (Ok a) →
    GivesLines mid_held job.script a job.settings mid now r → GivesDue held job before now r
lines_given held mid_held job a before mid now r same given p =
    given_of r (subst (λ n. GivesLines held job.script a job.settings n now r) given.1 (subst (λ x. GivesLines x job.script a job.settings mid now r) same p))
  where
    given_of : (r : Result (List ℕ) Refusal) → GivesLines held job.script a job.settings before now r → GivesDue held job before now r
    given_of (Ok items) p = (replays_by held job a p.0 items given.0 p.1 p.2, p.3)
    given_of (Err e) p = inr (a, given.0, p)

-- where no lines are due, nothing was written
not_by_output : (held : Held) (job : Job) (before now : ℕ) → HasNoDue held job before now refusals.OutputFailed → ⊥
not_by_output held job before now (inl (inl p)) = p.1
not_by_output held job before now (inl (inr p)) = p.1
not_by_output held job before now (inr p) = p.2

pub refused : (held : Held) (store_before store : ℕ) (old new : Option (List ℕ)) (before now : ℕ) (job : Job) (e : Refusal) → HasNoDue held job store_before store e → new ≡ old → now ≡ before →
    EndsReplay {T = Unit {0}} (outside held held store_before store old new before now) (Err e) job
refused held store_before store old new before now job refusals.OutputFailed p s q = absurd (not_by_output held job store_before store p)
refused held store_before store old new before now job refusals.Memory p s q = (s, q)
refused held store_before store old new before now job _ p s q = (p, (s, q))

-- the lines that are due gain what is due
gains : (Gains : List ℕ → Type 0) (held : Held) (job : Job) (items : List ℕ) → Replays (λ due. items ≡ due) held job → Gains items → Replays Gains held job
gains Gains held job items (inl r) g = inl (record {
  by_name = r.by_name;
  names = r.names;
  has = r.has;
  lines = r.lines;
  admitted = r.admitted;
  gains = λ tests honest. subst Gains (r.gains tests honest) g;
})
gains Gains held job items (inr r) g =
    inr (record { by_name = r.by_name; arrays = r.arrays; spelled = r.spelled; lines = r.lines; admitted = r.admitted; gains = subst Gains r.gains g })

-- where lines are due, they are written
pub written : (held : Held) (store_before store : ℕ) (old new : Option (List ℕ)) (before now : ℕ) (job : Job) (items : List ℕ) (r : Result (Unit {0}) Refusal) →
    GivesDue held job store_before store (Ok items) → WritesLines items old new before now r → EndsReplay (outside held held store_before store old new before now) r job
written held store_before store old new before now job items (Ok done) d p = (gains (Appends old new) held job items d.0 p.0, (d.1, p.1))
written held store_before store old new before now job items (Err refusals.OutputFailed) d p = (gains (AppendsPrefix old new) held job items d.0 p.0, p.1, d.1)
written held store_before store old new before now job items (Err refusals.Memory) d p = p
written held store_before store old new before now job items (Err _) d p = absurd p

-- the same of bytes that are the same
pub of_bytes : (bytes items : List ℕ) (old new : Option (List ℕ)) (before now : ℕ) (r : Result (Unit {0}) Refusal) → bytes ≡ items →
    WritesLines bytes old new before now r → WritesLines items old new before now r
of_bytes bytes items old new before now r same p = subst (λ x. WritesLines x old new before now r) same p

-- ---- an upgrade

-- a store that holds what it held keeps every name
pub keeps_same : (held holds : Held) (name : List ℕ) → holds ≡ held → KeepsOthers held holds name
keeps_same held holds name same = subst (λ x. KeepsOthers held x name) (sym same) (kept held)
  where
    kept : (held : Held) → KeepsOthers held held name
    kept None = tt
    kept (Some held) = λ other no. refl

-- the same of a later one
pub keeps_later : (held mid holds : Held) (name : List ℕ) → mid ≡ held → KeepsOthers mid holds name → KeepsOthers held holds name
keeps_later held mid holds name same p = subst (λ x. KeepsOthers x holds name) same p

pub not_renewed : (held holds : Held) (r : Renewal) (before now : ℕ) (e : Refusal) → holds ≡ held → HasNoSection held r.machine r.spec before now e → HasNoRenewal held holds r before now e
not_renewed held holds r before now (refusals.StoreFailed file) same p = (p.0, inl (p.1, same))
not_renewed held holds r before now _ same p = (p, same)

pub renewed : (held mid_held holds : Held) (r : Renewal) (a : Arrays) (text bytes : List ℕ) (before mid now : ℕ) (end : Result (Unit {0}) Refusal) → mid_held ≡ held →
    ReadsSection held r.machine r.spec before mid (Ok a) → IsNewSection a text → bytes ≡ text → WritesFile r.out bytes mid_held holds mid now end → UpgradesAs r held holds before now end
renewed held mid_held holds r a text bytes before mid now end same reads new is p =
    by_end end (subst (λ n. WritesFile r.out text held holds n now end) reads.1 (subst (λ x. WritesFile r.out text x holds mid now end) same (subst (λ t. WritesFile r.out t mid_held holds mid now end) is p)))
  where
    by_end : (end : Result (Unit {0}) Refusal) → WritesFile r.out text held holds before now end → UpgradesAs r held holds before now end
    by_end (Ok done) p = (record { arrays = a; spelled = reads.0; holds_it = subst (λ t. Writes held holds r.out t) new.is p.0; read = new.read; shows = new.shows }, p.1)
    by_end (Err (refusals.StoreFailed file)) p = (p.0, inr (p.1, (a, reads.0)))
    by_end (Err refusals.Memory) p = (tt, p)
    by_end (Err _) p = absurd p

-- ---- an input that is made

-- the line of the tables that were read is due
pub line_given : (held : Held) (m : Making) (a : Arrays) (before now : ℕ) (items : List ℕ) → ReadsTables held None m.spec before now (Ok a) → items ≡ made_text a default_settings m.lines →
    GivesMade held m before now (Ok items)
line_given held m a before now items given same = (record { arrays = a; given = given.0; gains = same }, given.1)

-- want of memory behind the tables
pub line_wanting : (held : Held) (m : Making) (a : Arrays) (before now : ℕ) → ReadsTables held None m.spec before now (Ok a) → GivesMade held m before now (Err refusals.Memory)
line_wanting held m a before now (inl g, same) = inl (g.0, tt)
line_wanting held m a before now (inr g, same) = inr (g.0, tt)

makes : (Gains : List ℕ → Type 0) (held : Held) (m : Making) (items : List ℕ) → Makes (λ due. items ≡ due) held m → Gains items → Makes Gains held m
makes Gains held m items d g = record { arrays = d.arrays; given = d.given; gains = subst Gains d.gains g }

pub not_made : (held : Held) (store_before store : ℕ) (old new : Option (List ℕ)) (before now : ℕ) (m : Making) (e : Refusal) → HasNoTables held None m.spec store_before store e → new ≡ old → now ≡ before →
    EndsMaking {T = Unit {0}} (outside held held store_before store old new before now) (Err e) m
not_made held store_before store old new before now m refusals.OutputFailed (inl p) s q = absurd p.1
not_made held store_before store old new before now m refusals.OutputFailed (inr p) s q = absurd p.1
not_made held store_before store old new before now m refusals.Memory p s q = (s, q)
not_made held store_before store old new before now m _ p s q = (p, (s, q))

pub made : (held : Held) (store_before store : ℕ) (old new : Option (List ℕ)) (before now : ℕ) (m : Making) (items : List ℕ) (r : Result (Unit {0}) Refusal) →
    GivesMade held m store_before store (Ok items) → WritesLines items old new before now r → EndsMaking (outside held held store_before store old new before now) r m
made held store_before store old new before now m items (Ok done) d p = (makes (Appends old new) held m items d.0 p.0, (d.1, p.1))
made held store_before store old new before now m items (Err refusals.OutputFailed) d p = (makes (AppendsPrefix old new) held m items d.0 p.0, p.1, d.1)
made held store_before store old new before now m items (Err refusals.Memory) d p = p
made held store_before store old new before now m items (Err _) d p = absurd p

-- ---- forms of words

pub ends_renewal : (o : Outside) (r : Renewal) (end : Result (Unit {0}) Refusal) → UpgradesAs r o.held o.holds o.store_before o.store end → IsSilent o → EndsRenewal o end r
ends_renewal o r (Ok done) p s = (p.0, s, p.1)
ends_renewal o r (Err e) p s = (p, s)

-- want of memory before anything was done
pub no_memory : (o : Outside) (i : Input) (said : Option Run) → IsSilent o → o.store ≡ o.store_before → o.holds ≡ o.held → IsUntouched i → Ends {T = Unit {0}} o i said (Err refusals.Memory)
no_memory o i (Some (words.Replay machine settings spec script)) s n h u = (s, h, u)
no_memory o i (Some (words.Upgrade machine out spec)) s n h u = (((tt, h), s), keeps_same o.held o.holds out h, u)
no_memory o i (Some (words.Make lines spec)) s n h u = (s, h, u)
no_memory o i (Some (words.Stream spec entry)) s n h u = (inl (s, u), h)
no_memory o i None s n h u = ((s, n), h, u)

-- words that say nothing
pub no_words : (o : Outside) (i : Input) (said : Option Run) → said ≡ None → IsSilent o → o.store ≡ o.store_before → o.holds ≡ o.held → IsUntouched i → Ends {T = Unit {0}} o i said (Err refusals.Usage)
no_words o i said none s n h u = subst (λ x. Ends {T = Unit {0}} o i x (Err refusals.Usage)) (sym none) ((s, n), h, u)

-- what is said of the words as the parser took them is said of the words
pub said_here : (o : Outside) (i : Input) (words : List (List ℕ)) (seen items : List (Bor (List ℕ))) (said : Option Run) (end : Result (Unit {0}) Refusal) → seen ≡ items → texts items ≡ words → run_of (texts seen) ≡ said →
    Ends o i said end → Ends o i (run_of words) end
said_here o i words seen items said end same is e p = subst (λ x. Ends o i x end) (sym e ∙ ap (λ xs. run_of (texts xs)) same ∙ ap (λ ws. run_of ws) is) p

pub nothing_here : (words : List (List ℕ)) (seen items : List (Bor (List ℕ))) (e : WordsFault) → seen ≡ items → texts items ≡ words → e ≡ words_fault.Usage → RefusesWords (run_of (texts seen)) e → run_of words ≡ None
nothing_here words seen items e same is usage refused =
    ap (λ ws. run_of ws) (sym is) ∙ ap (λ xs. run_of (texts xs)) (sym same) ∙ subst (λ x. RefusesWords (run_of (texts seen)) x) usage refused

-- ---- the line

-- what the error output answered tells what it gained
tells_by : {T : Type 0} (old new : Option (List ℕ)) (before now : ℕ) (line : List ℕ) (told : Result T SinkFault) →
    TellsAs old new before now line told → Tells old new before now line
tells_by old new before now line (Ok done) p = inl p
tells_by old new before now line (Err sink.Failed) p = inr (inl p)
tells_by old new before now line (Err sink.Memory) p = inr (inr p)

pub ends_with : {T : Type 0} (o : Outside) (i : Input) (said : Option Run) (old new : Option (List ℕ)) (before now : ℕ) (status : Status) (told : Result T SinkFault) →
    EndsTelling o i said old new before now status told →
    EndsWith o i said old new before now status
ends_with o i said old new before now status told (end, ends, same, tells) = (end, ends, same, tells_by old new before now (line_of end) told tells)
