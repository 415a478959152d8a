-- Lines that open a session, and lines that answer calls.
use Rattle.std.proofs.Common.{◌≡◌, ℕ, Bool, true, false, cond, ◌||◌, List, [], ◌∷◌, ◌++◌, length, drop, filter_map, Option, Some, None, is_some, unwrap_or, refl, sym, ◌∙◌, ap, subst, append-nil, ◌*◌, ◌≤◌, arith}
use Rattle.std.proofs.Math.Seq.{drop-append_seam}
use Rattle.std.proofs.lemmas.List.{map-append}
use Rattle.std.proofs.lemmas.List.Elements.{filter_map-append}
use Rattle.std.proofs.lemmas.List.Folds.{list_any-append}
use Rattle.std.proofs.Math.Nat.{zero-div}
use Rattle.rl_types.specs.Alphabet.{characters, has_rest}
use Rattle.rl_types.proofs.Characters.{length-characters}
use Rattle.rl_run.specs.declared.calls.Answer.{Answer}
use Rattle.rl_run.specs.declared.calls.Call.{Call}
use Rattle.rl_run.specs.declared.calls.Outcome.TheVariants.{Wants}
use Rattle.rl_run.specs.declared.sessions.Settings.{Settings}
use Rattle.rl_run.specs.Chain.{run_on}
use Rattle.rl_run.specs.Hosted.{hosted}
use Rattle.rl_run.specs.Machine.{Machine, fresh}
use Rattle.rl_run.specs.Run.{at_letter, turns, input_at}
use Rattle.rl_arrays.specs.declared.arrays.Arrays.{Arrays}
use Rattle.rl_arrays.specs.TableMachine.{machine}
use Rattle.rl_replay.specs.declared.script.Line.{Line}
use Rattle.rl_replay.specs.Host.{host}
use Rattle.rl_replay.specs.Lines.{run_lines}
use Rattle.rl_replay.specs.Sessions.{Names, entry_or_start, first, session_of, opening_of, feeding_of, is_end, only, opened_at, opened_by, is_opened, is_ended, fed}
use Rattle.rl_replay.specs.Written.{input_of, entry_of, host_run, session_lines}
use Rattle.rl_script.specs.TableNames.{names_in}
use Rattle.rl_sessions.specs.SessionsValue.{SessionValue, SessionsValue, IsWindowOf, find, started}
use Rattle.rl_playback.specs.declared.books.Books.{Books}
use Rattle.rl_playback.specs.declared.log.Log.{Log}
use Rattle.rl_playback.specs.Deeds.{Opens}
use Rattle.rl_playback.specs.Stands.{IsUnopened, IsOpened, StandsAt, AreDistinct, Stands}
use Rattle.rl_playback.proofs.Finds.{names_of, find_started, find_beside, distinct_started}
use Rattle.rl_playback.proofs.LineSteps.{none_some}
use Rattle.rl_playback.proofs.Moves.{run_pair}
use Rattle.rl_playback.proofs.Steps.{aside_none, gained_own, stepped}
use Rattle.rl_playback.proofs.Texts.{fed_more, ended_more, first_behind, lines_by, session_text}

-- no bytes have no characters
no_characters : (width : ℕ) → characters width [] ≡ []
no_characters width = none (characters width []) (length-characters width [] ∙ zero-div width)
  where
    none : (xs : List ℕ) → length xs ≡ 0 → xs ≡ []
    none [] e = refl
    none (x ∷ xs) e = absurd (omega arith)

-- a run from a start that sees nothing yet wants more
fresh_wants : (m : Machine ℕ) (settings : Settings) (host : List Call → Answer) (state : ℕ) →
    hosted host [] (run_on false m settings (input_at m.width 0 [] false) (fresh state)) ≡ run_pair [] (Some Wants) (fresh state)
unfolding run_on turns at_letter
fresh_wants m settings host state =
    ap (λ all. hosted host [] (run_on false m settings (record { base = 0; characters = all; is_closed = false; has_rest = has_rest m.width [] }) (fresh state))) (no_characters m.width)

-- a session that starts has no bytes behind it
starts_window : (width : ℕ) (input name : List ℕ) (state : ℕ) → input ≡ [] → IsWindowOf width input (started name state)
starts_window width input name state e = record {
  within = subst (λ n. n ≤ length input) (sym (times_none width)) (omega arith);
  same = subst (λ n. drop n input ≡ []) (sym (times_none width)) e;
}
  where
    times_none : (w : ℕ) → w * 0 ≡ 0
    times_none w = omega arith

-- a text less itself
less_itself : (text : List ℕ) → drop (length text) text ≡ []
less_itself text = ap (λ t. drop (length text) t) (sym (append-nil text)) ∙ drop-append_seam text []

or_same : (b : Bool) → b || (false || false) ≡ b
or_same true = refl
or_same false = refl

module _ (past : List Line) (line : Line) (opens : opening_of line.event ≡ None) (feeds : feeding_of line.event ≡ []) (ends : is_end line.event ≡ false) where
  no_opening : filter_map (λ l. opening_of l.event) (line ∷ []) ≡ []
  no_opening = rw opens refl

  opened_kept : opened_at (past ++ line ∷ []) ≡ opened_at past
  opened_kept =
      ap first (filter_map-append (λ l. opening_of l.event) past (line ∷ [])
      ∙ ap (λ more. filter_map (λ l. opening_of l.event) past ++ more) no_opening
      ∙ append-nil (filter_map (λ l. opening_of l.event) past))

  fed_kept : fed (past ++ line ∷ []) ≡ fed past
  fed_kept = fed_more past line ∙ ap (λ bytes. fed past ++ bytes) feeds ∙ append-nil (fed past)

  ended_kept : is_ended (past ++ line ∷ []) ≡ is_ended past
  ended_kept = list_any-append (λ l. is_end l.event) past (line ∷ []) ∙ ap (λ b. is_ended past || (b || false)) ends ∙ or_same (is_ended past)

  input_kept : (width : ℕ) → input_of width (past ++ line ∷ []) ≡ input_of width past
  input_kept width =
      let P : List ℕ → Type 0 = λ bytes. input_of width (past ++ line ∷ []) ≡ input_at width 0 bytes (is_ended (past ++ line ∷ [])) in
      let Q : Bool → Type 0 = λ b. input_of width (past ++ line ∷ []) ≡ input_at width 0 (fed past) b in
      subst Q ended_kept (subst P fed_kept refl)

  module _ (names : Names) (m : Machine ℕ) (settings : Settings) (s : List ℕ) (own : List Line) where
    run_kept : host_run names m settings own (past ++ line ∷ []) ≡ host_run names m settings own past
    run_kept =
        ap (λ o. hosted (host m own) [] (run_on false m settings (input_of m.width (past ++ line ∷ [])) (fresh (m.entry (entry_or_start names (unwrap_or o None)))))) opened_kept
        ∙ ap (λ input. hosted (host m own) [] (run_on false m settings input (fresh (m.entry (entry_of names past))))) (input_kept m.width)

    lines_kept : session_lines names m settings s own (past ++ line ∷ []) ≡ session_lines names m settings s own past
    lines_kept =
        ap (λ o. cond (is_some o) (run_lines m settings s (host m own) (entry_or_start names (unwrap_or o None)) (input_of m.width (past ++ line ∷ []))) []) opened_kept
        ∙ ap (λ input. cond (is_some (opened_at past)) (run_lines m settings s (host m own) (entry_of names past) input) []) (input_kept m.width)

    stands_kept : (books : Books) (o : Option SessionValue) → StandsAt names m settings s own past books o → StandsAt names m settings s own (past ++ line ∷ []) books o
    stands_kept books None h = record { opened = opened_kept ∙ h.opened; fed = fed_kept ∙ h.fed; ended = ended_kept ∙ h.ended; counts = h.counts }
    stands_kept books (Some x) h = record {
      opened = ap (λ (o : Option (Option (List ℕ))). is_some o) opened_kept ∙ h.opened;
      ended = ended_kept ∙ h.ended;
      come = λ e.
          let k = h.come e in
          let W : List ℕ → Type 0 = λ bytes. IsWindowOf m.width bytes x in
          record {
            calls = k.calls;
            run = run_kept ∙ k.run;
            counts = k.counts;
            window = λ g. subst W (sym fed_kept) (k.window g);
            stopped = k.stopped;
          };
    }

module _ (settings : Settings) (script past : List Line) (a : Arrays) (line : Line) (log : Log) (sessions : SessionsValue) (st : Stands settings script past a log sessions) where
  abbrev s : List ℕ
  s = session_of line.event

  abbrev own : List Line
  own = only s script

  abbrev at : List Line
  at = only s past

  abbrev now : List Line
  now = only s past ++ line ∷ []

  -- an answer to come
  pub quiet_stands : opening_of line.event ≡ None → feeding_of line.event ≡ [] → is_end line.event ≡ false → opened_by line.event ≡ None → Stands settings script (past ++ line ∷ []) a log sessions
  quiet_stands opens feeds ends names =
      let none : filter_map (λ l. opened_by l.event) (line ∷ []) ≡ [] = rw names refl in
      stepped settings script past a line log sessions log sessions st st.tables st.machine_tables st.bounds st.room
      (sym (append-nil (names_of sessions.all)) ∙ ap (λ more. names_of sessions.all ++ more) (sym none)) st.distinct (λ t e. refl) (aside_none s log.books)
      (stands_kept at line opens feeds ends (names_in a) (machine a) settings s own log.books (find s sessions.all) (st.each s))
      (sym (append-nil log.text.items)
      ∙ ap (λ text. log.text.items ++ text)
      (sym (less_itself (session_lines (names_in a) (machine a) settings s own at))
      ∙ ap (λ text. drop (length (session_lines (names_in a) (machine a) settings s own at)) text) (sym (lines_kept at line opens feeds ends (names_in a) (machine a) settings s own))
      ∙ sym (gained_own settings script past a line)))

  -- a session is opened
  module _ (entry : Option (List ℕ)) (later : SessionsValue) (opening : opening_of line.event ≡ Some entry) (feeds : feeding_of line.event ≡ []) (ends : is_end line.event ≡ false)
      (names_it : opened_by line.event ≡ Some s) (o : Opens s (entry_or_start (names_in a) entry) sessions later) where
    abbrev m : Machine ℕ
    m = machine a

    abbrev x : SessionValue
    x = started s (m.entry (entry_or_start (names_in a) entry))

    unopened : IsUnopened (names_in a) m settings s own at log.books
    unopened = let P : Option SessionValue → Type 0 = λ v. StandsAt (names_in a) m settings s own at log.books v in subst P o.unknown (st.each s)

    one_opening : filter_map (λ l. opening_of l.event) (line ∷ []) ≡ entry ∷ []
    one_opening = rw opening refl

    opened_now : opened_at now ≡ Some entry
    opened_now =
        ap first (filter_map-append (λ l. opening_of l.event) at (line ∷ []))
        ∙ first_behind (filter_map (λ l. opening_of l.event) at) (filter_map (λ l. opening_of l.event) (line ∷ [])) unopened.opened
        ∙ ap first one_opening

    fed_now : fed now ≡ []
    fed_now = fed_more at line ∙ ap (λ bytes. bytes ++ feeding_of line.event) unopened.fed ∙ feeds

    ended_now : is_ended now ≡ false
    ended_now = ended_more at line unopened.ended ∙ ends

    input_now : input_of m.width now ≡ input_at m.width 0 [] false
    input_now =
        let P : List ℕ → Type 0 = λ bytes. input_of m.width now ≡ input_at m.width 0 bytes (is_ended now) in
        let Q : Bool → Type 0 = λ b. input_of m.width now ≡ input_at m.width 0 [] b in
        subst Q ended_now (subst P fed_now refl)

    run_now : host_run (names_in a) m settings own now ≡ run_pair [] (Some Wants) x.session
    run_now =
        ap (λ v. hosted (host m own) [] (run_on false m settings (input_of m.width now) (fresh (m.entry (entry_or_start (names_in a) (unwrap_or v None)))))) opened_now
        ∙ ap (λ input. hosted (host m own) [] (run_on false m settings input x.session)) input_now
        ∙ fresh_wants m settings (host m own) (m.entry (entry_or_start (names_in a) entry))

    is_opened_now : is_opened now ≡ true
    is_opened_now = ap (λ (v : Option (Option (List ℕ))). is_some v) opened_now

    here : IsOpened (names_in a) m settings s own now log.books x
    here = record {
      opened = is_opened_now;
      ended = ended_now;
      come = λ _. record {
        calls = [];
        run = run_now;
        counts = unopened.counts;
        window = λ e. starts_window m.width (fed now) s (m.entry (entry_or_start (names_in a) entry)) fed_now;
        stopped = λ outcome e. none_some outcome e;
      };
    }

    no_lines : session_lines (names_in a) m settings s own at ≡ []
    no_lines = ap (λ (v : Option (Option (List ℕ))). cond (is_some v) (run_lines m settings s (host m own) (entry_of (names_in a) at) (input_of m.width at)) []) unopened.opened

    no_lines_now : session_lines (names_in a) m settings s own now ≡ []
    no_lines_now =
        session_text (names_in a) m settings s own now is_opened_now
        ∙ ap (λ b. lines_by m s (host m own) (host_run (names_in a) m settings own now) b) ended_now
        ∙ ap (λ r. lines_by m s (host m own) r false) run_now

    all_is : later.all ≡ sessions.all ++ x ∷ []
    all_is =
        ap (λ (v : SessionsValue). v.all) o.others
        ∙ ap (λ v. sessions.all ++ started s ((machine v).entry (entry_or_start (names_in a) entry)) ∷ []) st.machine_tables

    pub open_stands : Stands settings script (past ++ line ∷ []) a log later
    open_stands =
        let named : filter_map (λ l. opened_by l.event) (line ∷ []) ≡ s ∷ [] = rw names_it refl in
        let D : List SessionValue → Type 0 = λ all. AreDistinct all in
        let P : Option SessionValue → Type 0 = λ v. StandsAt (names_in a) m settings s own now log.books v in
        stepped settings script past a line log sessions log later st st.tables
        (ap (λ (v : SessionsValue). v.tables) o.others ∙ st.machine_tables) (ap (λ (v : SessionsValue). v.settings) o.others ∙ st.bounds) st.room
        (ap names_of all_is ∙ map-append (λ (v : SessionValue). v.name) sessions.all (x ∷ []) ∙ ap (λ more. names_of sessions.all ++ more) (sym named))
        (subst D (sym all_is) (distinct_started s x refl sessions.all st.distinct o.unknown))
        (λ t e. ap (find t) all_is ∙ find_beside s x refl t sessions.all e) (aside_none s log.books)
        (subst P (sym (ap (find s) all_is ∙ find_started s x refl sessions.all o.unknown)) here)
        (sym (append-nil log.text.items)
        ∙ ap (λ text. log.text.items ++ text)
        (sym (ap (λ text. drop (length text) (session_lines (names_in a) m settings s own now)) no_lines ∙ no_lines_now) ∙ sym (gained_own settings script past a line)))
