-- A session's run goes on over one more of its lines.
use Rattle.std.proofs.Common.{◌≡◌, ◌≢◌, ℕ, ◌<◌, ◌^◌, Bool, true, false, List, [], ◌∷◌, ◌++◌, length, drop, Option, Some, None, is_some, unwrap_or, refl, sym, ◌∙◌, ap, append_assoc}
use Rattle.rl_run.specs.declared.sessions.Settings.{Settings}
use Rattle.rl_run.specs.declared.calls.Call.{Call}
use Rattle.rl_run.specs.declared.calls.Outcome.{Outcome}
use Rattle.rl_run.specs.declared.calls.Outcome.TheVariants.{Wants, Broke, Ended, Stopped}
use Rattle.rl_run.specs.declared.calls.Stop.{Stop}
use Rattle.rl_run.specs.Chain.{run_on}
use Rattle.rl_run.specs.Fine.{IsKinded, IsFine}
use Rattle.rl_run.specs.Hosted.{hosted}
use Rattle.rl_run.specs.Machine.{Machine, Session, fresh}
use Rattle.rl_run.specs.Run.{Input, Rest, rest, input_at}
use Rattle.rl_run.proofs.Starts.{start_fine}
use Rattle.rl_arrays.specs.declared.arrays.Arrays.{Arrays}
use Rattle.rl_arrays.specs.TableMachine.{machine}
use Rattle.rl_runner.specs.Feeds.{over_after}
use Rattle.rl_replay.specs.declared.script.Line.{Line}
use Rattle.rl_replay.specs.Host.{host}
use Rattle.rl_replay.specs.Lines.{calls_lines}
use Rattle.rl_replay.specs.Sessions.{Names, entry_or_start, feeding_of, is_end, is_opened, is_ended, fed}
use Rattle.rl_replay.specs.Written.{input_of, entry_of, host_run, session_lines}
use Rattle.rl_playback.specs.declared.log.Log.{Log}
use Rattle.rl_playback.specs.Log.{stop_text}
use Rattle.rl_playback.specs.Stands.{Counts, outcome_of}
use Rattle.rl_playback.proofs.Between.{Told, told}
use Rattle.rl_playback.proofs.Continued.{wants_on, stops_on}
use Rattle.rl_playback.proofs.Texts.{ended_more, opened_same, input_more, extends_more, few_characters, end_text, lines_by, grown, grown_stopped, stop_same, session_text}

-- what an over session keeps is its stop
pub outcome_kept : (o : Outcome) → o ≢ Broke → outcome_of (over_after o) ≡ o
outcome_kept Wants h = refl
outcome_kept Broke h = absurd (h refl)
outcome_kept Ended h = refl
outcome_kept (Stopped cause) h = refl

abbrev pub run_pair : List Call → Option Outcome → Session ℕ → List Call × Rest ℕ
run_pair calls o t = (calls, rest o t)

module _ (names : Names) (a : Arrays) (settings : Settings) (kinded : IsKinded (machine a)) (s : List ℕ) (own past : List Line) (line : Line) where
  abbrev m : Machine ℕ
  m = machine a

  abbrev now : List Line
  now = past ++ line ∷ []

  abbrev long : Bool → Input
  long closed = input_at m.width 0 (fed past ++ feeding_of line.event) closed

  abbrev start : List Line → Session ℕ
  start lines = fresh (m.entry (entry_of names lines))

  start_is_fine : IsFine m (start past)
  start_is_fine = start_fine m (entry_of names past) kinded

  -- the run over the line's session, from where it was opened
  run_now : is_opened past ≡ true → is_ended past ≡ false → (r : List Call × Rest ℕ) →
      hosted (host m own) [] (run_on false m settings (long (is_end line.event)) (start past)) ≡ r → host_run names m settings own now ≡ r
  run_now opened open_yet r e =
      ap (λ input. hosted (host m own) [] (run_on false m settings input (start now))) (input_more past line m.width open_yet)
      ∙ ap (λ o. hosted (host m own) [] (run_on false m settings (long (is_end line.event)) (fresh (m.entry (entry_or_start names (unwrap_or o None)))))) (opened_same past line opened)
      ∙ e

  -- a run that wants more goes on
  pub goes_on : is_opened past ≡ true → is_ended past ≡ false → length (fed past ++ feeding_of line.event) < 2 ^ 63 →
      (calls more : List Call) (t u : Session ℕ) (o : Outcome) → host_run names m settings own past ≡ run_pair calls (Some Wants) t →
      hosted (host m own) calls (run_on false m settings (long (is_end line.event)) t) ≡ run_pair more (Some o) u →
      host_run names m settings own now ≡ run_pair more (Some o) u
  goes_on opened open_yet limit calls more t u o first second =
      run_now opened open_yet (run_pair more (Some o) u)
      (wants_on m settings (host m own) kinded (input_of m.width past) (long (is_end line.event)) open_yet
      (extends_more m.width (fed past) (feeding_of line.event) (is_ended past) (is_end line.event)) (few_characters m.width (fed past ++ feeding_of line.event) limit) refl
      (start past) t u calls more o start_is_fine first second)

  -- a run that has stopped stays so
  pub stays_stopped : is_opened past ≡ true → is_ended past ≡ false → length (fed past ++ feeding_of line.event) < 2 ^ 63 →
      (calls : List Call) (t : Session ℕ) (cause : Stop) → host_run names m settings own past ≡ run_pair calls (Some (Stopped cause)) t →
      host_run names m settings own now ≡ run_pair calls (Some (Stopped cause)) t
  stays_stopped opened open_yet limit calls t cause first =
      run_now opened open_yet (run_pair calls (Some (Stopped cause)) t)
      (stops_on m settings (host m own) kinded (input_of m.width past) (long (is_end line.event)) open_yet
      (extends_more m.width (fed past) (feeding_of line.event) (is_ended past) (is_end line.event)) (few_characters m.width (fed past ++ feeding_of line.event) limit) refl
      (start past) t calls cause start_is_fine first)

  abbrev pub gain : List ℕ
  gain = drop (length (session_lines names m settings s own past)) (session_lines names m settings s own now)

  pub opened_now : is_opened past ≡ true → is_opened now ≡ true
  opened_now e = ap (λ (o : Option (Option (List ℕ))). is_some o) (opened_same past line e) ∙ e

  -- the text that the line adds, by the runs before it and behind it
  pub gain_is : is_opened past ≡ true → is_ended past ≡ false → (r q : List Call × Rest ℕ) →
      host_run names m settings own past ≡ r → host_run names m settings own now ≡ q →
      gain ≡ drop (length (lines_by m s (host m own) r false)) (lines_by m s (host m own) q (is_end line.event))
  gain_is opened open_yet r q first second =
      ap (λ text. drop (length text) (session_lines names m settings s own now))
      (session_text names m settings s own past opened
      ∙ ap (λ b. lines_by m s (host m own) (host_run names m settings own past) b) open_yet
      ∙ ap (λ x. lines_by m s (host m own) x false) first)
      ∙ ap (λ text. drop (length (lines_by m s (host m own) r false)) text)
      (session_text names m settings s own now (opened_now opened)
      ∙ ap (λ b. lines_by m s (host m own) (host_run names m settings own now) b) (ended_more past line open_yet)
      ∙ ap (λ x. lines_by m s (host m own) x (is_end line.event)) second)

  -- what a line comes to that runs its session on
  pub record Moved (log mid : Log) (u : Session ℕ) (o : Outcome) : Type 0 where
    pub calls : List Call
    pub run : host_run names m settings own now ≡ run_pair calls (Some o) u
    pub counts : Counts m s own calls mid.books
    pub text : mid.text.items ++ (stop_text s o u.next ++ end_text m s (host m own) (rest (Some o) u) (is_end line.event)) ≡ log.text.items ++ gain

  pub moves : is_opened past ≡ true → is_ended past ≡ false → length (fed past ++ feeding_of line.event) < 2 ^ 63 →
      (calls : List Call) (t u : Session ℕ) (o : Outcome) (log mid : Log) → host_run names m settings own past ≡ run_pair calls (Some Wants) t →
      Told a s own calls log mid (run_on false m settings (long (is_end line.event)) t) (rest (Some o) u) → Moved log mid u o
  moves opened open_yet limit calls t u o log mid first told =
      let second = goes_on opened open_yet limit calls (calls ++ told.more) t u o first told.run in
      let ends = end_text m s (host m own) (rest (Some o) u) (is_end line.event) in
      let behind = calls_lines m s (host m own) calls told.more in
      record {
        calls = calls ++ told.more;
        run = second;
        counts = told.counts;
        text = ap (λ text. text ++ (stop_text s o u.next ++ ends)) told.text
            ∙ append_assoc log.text.items behind (stop_text s o u.next ++ ends)
            ∙ ap (λ text. log.text.items ++ (behind ++ (text ++ ends))) (sym (stop_same s o u))
            ∙ ap (λ text. log.text.items ++ text)
            (sym (gain_is opened open_yet (run_pair calls (Some Wants) t) (run_pair (calls ++ told.more) (Some o) u) first second
            ∙ grown m s (host m own) calls told.more t u o (is_end line.event)));
      }

  -- and to one that finds it stopped
  pub gain_stopped : is_opened past ≡ true → is_ended past ≡ false → length (fed past ++ feeding_of line.event) < 2 ^ 63 →
      (calls : List Call) (t : Session ℕ) (cause : Stop) → host_run names m settings own past ≡ run_pair calls (Some (Stopped cause)) t →
      gain ≡ end_text m s (host m own) (rest (Some (Stopped cause)) t) (is_end line.event)
  gain_stopped opened open_yet limit calls t cause first =
      gain_is opened open_yet (run_pair calls (Some (Stopped cause)) t) (run_pair calls (Some (Stopped cause)) t) first
      (stays_stopped opened open_yet limit calls t cause first)
      ∙ grown_stopped m s (host m own) calls t cause (is_end line.event)
