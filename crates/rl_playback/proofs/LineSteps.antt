-- What each sort of line does, a replay stands behind.
use Rattle.std.proofs.Common.{◌≡◌, ◌≢◌, ℕ, ◌+◌, ◌-◌, ◌*◌, ◌≤◌, ◌<◌, ◌^◌, Bool, true, false, cond, inl, inr, List, [], ◌∷◌, ◌++◌, length, filter_map, Option, Some, None, is_some, unwrap_or, option_map, refl, sym, ◌∙◌, ap, subst, append-nil, length-append, length-drop, arith}
use Rattle.rl_run.specs.declared.calls.Outcome.{Outcome}
use Rattle.rl_run.specs.declared.calls.Outcome.TheVariants.{Wants, Broke, Ended, Stopped}
use Rattle.rl_run.specs.declared.calls.Stop.{Stop}
use Rattle.rl_run.specs.declared.calls.Verdict.TheVariants.{Final, Partial, Error}
use Rattle.rl_run.specs.declared.sessions.Settings.{Settings}
use Rattle.rl_run.specs.Chain.{Played, run_on}
use Rattle.rl_run.specs.Fine.{IsKinded}
use Rattle.rl_run.specs.Machine.{Machine, Session, fresh}
use Rattle.rl_run.specs.Run.{Input, rest, input_at}
use Rattle.rl_run.specs.Verdict.{verdict_of}
use Rattle.rl_run.proofs.Cuts.{plays}
use Rattle.rl_arrays.specs.declared.arrays.Arrays.{Arrays}
use Rattle.rl_arrays.specs.TableMachine.{machine}
use Rattle.rl_runner.specs.Feeds.{over_after, window_of, closed_of}
use Rattle.rl_replay.specs.declared.script.Line.{Line}
use Rattle.rl_replay.specs.Host.{host}
use Rattle.rl_replay.specs.Lines.{end_line}
use Rattle.rl_replay.specs.Sessions.{Names, session_of, feeding_of, is_end, only, opened_by, is_opened, is_ended, fed}
use Rattle.rl_replay.specs.Written.{input_of, entry_of, host_run}
use Rattle.rl_script.specs.TableNames.{names_in}
use Rattle.rl_sessions.specs.SessionsValue.{SessionValue, SessionsValue, IsWindowOf, find, replaced, verdict_in}
use Rattle.rl_sessions.specs.Runs.{Takes, Becomes}
use Rattle.rl_playback.specs.declared.books.Books.{Books}
use Rattle.rl_playback.specs.declared.log.Log.{Log}
use Rattle.rl_playback.specs.Deeds.{next_of, HasStopped, HasNotStopped, Adds, Opens, Idles, FeedsOn, Feeds, Finishes}
use Rattle.rl_playback.specs.Deeds as deed
use Rattle.rl_playback.specs.Log.{tables_of, LogsCall, stop_text}
use Rattle.rl_playback.specs.Stands.{Counts, outcome_of, HasCome, IsOpened, StandsAt, AreDistinct, Stands}
use Rattle.rl_playback.specs.Books.{Text}
use Rattle.rl_playback.proofs.Between.{Between, between, told}
use Rattle.rl_playback.proofs.Continued.{never_ends}
use Rattle.rl_playback.proofs.Finds.{names_of, find_name, find_replaced, find_other, names_replaced, distinct_replaced}
use Rattle.rl_playback.proofs.Moves.{run_pair, outcome_kept, Moved, moves, stays_stopped, gain_stopped, opened_now, gain}
use Rattle.rl_playback.proofs.Steps.{Aside, aside_none, aside_of, own_line, gained_own, stepped, fed_fits}
use Rattle.rl_playback.proofs.Texts.{fed_more, ended_more, end_text}

abbrev PieceAt : Machine ℕ → Settings → List ℕ → Log → Log → SessionValue → SessionValue → Outcome → Type 0
PieceAt m settings piece first mid x y o = Takes LogsCall m settings piece first mid x y o

-- a session that did not stop may go on, and one that is over has stopped
going_wants : (m : Machine ℕ) (x : SessionValue) → ((o : Outcome) → x.over ≡ Some o → (cause : Stop) × (o ≡ Stopped cause)) →
    verdict_of m (rest x.over x.session) ≢ Error → x.over ≡ None
going_wants m x stopped h = go x.over refl
  where
    go : (over : Option Outcome) → x.over ≡ over → over ≡ None
    go None e = refl
    go (Some o) e =
        let (cause, f) = stopped o e in
        absurd (h (ap (λ p. verdict_of m (rest p x.session)) e ∙ ap (λ p. verdict_of m (rest (Some p) x.session)) f))

error_stopped : (m : Machine ℕ) (x : SessionValue) → ((o : Outcome) → x.over ≡ Some o → (cause : Stop) × (o ≡ Stopped cause)) →
    verdict_of m (rest x.over x.session) ≡ Error → (cause : Stop) × (x.over ≡ Some (Stopped cause))
error_stopped m x stopped h = go x.over refl
  where
    no_error : (final : Bool) → cond final Final Partial ≡ Error → ⊥
    no_error true e = cc e
    no_error false e = cc e

    go : (over : Option Outcome) → x.over ≡ over → (cause : Stop) × (over ≡ Some (Stopped cause))
    go None e = absurd (no_error (m.final x.session.state) (sym (ap (λ p. verdict_of m (rest p x.session)) e) ∙ h))
    go (Some o) e = let (cause, f) = stopped o e in (cause, ap (λ p. Some p) f)

-- what becomes of a session in a run on an input that may go on
stops_only : (o outcome : Outcome) → o ≢ Ended → over_after o ≡ Some outcome → (cause : Stop) × (outcome ≡ Stopped cause)
stops_only Wants outcome h e = absurd (cc e)
stops_only Broke outcome h e = absurd (cc e)
stops_only Ended outcome h e = absurd (h refl)
stops_only (Stopped cause) outcome h e = (cause, same (Stopped cause) outcome e)
  where
    same : (p q : Outcome) → Some p ≡ Some q → q ≡ p
    same p q e = cc

pub none_some : {B : Type 0} (o : Outcome) → None ≡ Some o → B
none_some o e = absurd (cc)

true_false : true ≡ false → ⊥
true_false e = cc

module _ (settings : Settings) (script past : List Line) (a : Arrays) (line : Line) (kinded : IsKinded (machine a)) where
  abbrev s : List ℕ
  s = session_of line.event

  abbrev own : List Line
  own = only s script

  abbrev at : List Line
  at = only s past

  abbrev now : List Line
  now = only s past ++ line ∷ []

  abbrev names : Names
  names = names_in a

  abbrev Come : List Line → Books → SessionValue → Type 0
  Come lines books x = HasCome names (machine a) settings s own lines books x

  abbrev added : List ℕ
  added = gain names a settings kinded s own at line

  -- what is known where the line runs its session on
  record Ready (log : Log) (x : SessionValue) : Type 0 where
    opened : is_opened at ≡ true
    open_yet : is_ended at ≡ false
    limit : length (fed at ++ feeding_of line.event) < 2 ^ 63
    come : Come at log.books x

  run_of : (log : Log) (x : SessionValue) (r : Ready log x) (over : Option Outcome) → x.over ≡ over →
      host_run names (machine a) settings own at ≡ run_pair r.come.calls (Some (outcome_of over)) x.session
  run_of log x r over e = r.come.run ∙ ap (λ p. run_pair r.come.calls (Some (outcome_of p)) x.session) e

  -- a session that goes on
  goes : (log : Log) (x : SessionValue) (r : Ready log x) → x.over ≡ None → (first mid : Log) → first.books ≡ log.books → first.text ≡ log.text → tables_of first ≡ a → first.session.now ≡ s →
      mid.is_full ≡ false → (u : Session ℕ) (o : Outcome) →
      Played LogsCall first (run_on false (machine a) settings (input_at (machine a).width 0 (fed at ++ feeding_of line.event) (is_end line.event)) x.session) mid (rest (Some o) u) →
      Moved names a settings kinded s own at line first mid u o
  goes log x r e first mid same_books same_text at_tables at_session room u o p =
      let P : Books → Type 0 = λ books. Counts (machine a) s own r.come.calls books in
      moves names a settings kinded s own at line r.opened r.open_yet r.limit r.come.calls x.session u o first mid (run_of log x r None e)
      (told a s own r.come.calls first mid _ (rest (Some o) u) (plays LogsCall first mid _ p.log (rest (Some o) u) p.chain p.calls) room at_tables at_session
      (subst P (sym same_books) r.come.counts))

  -- what the log and the sessions are before the line, with the line's session as the log's
  module _ (log : Log) (sessions : SessionsValue) (st : Stands settings script past a log sessions) (rest_lines : List Line) (whole : script ≡ past ++ line ∷ rest_lines)
      (opened : is_opened at ≡ true) (open_yet : is_ended at ≡ false) (opens_none : opened_by line.event ≡ None) where
    limit_here : length (fed at ++ feeding_of line.event) < 2 ^ 63
    limit_here =
        let fits = fed_fits s script past line rest_lines whole st.small in
        let e : length (fed (only s (past ++ line ∷ []))) ≡ length (fed at ++ feeding_of line.event) =
        ap (λ lines. length (fed lines)) (own_line settings script past a line) ∙ ap length (fed_more at line) in
        omega arith

    ready : (x : SessionValue) → find s sessions.all ≡ Some x → Ready log x
    ready x found =
        let P : Option SessionValue → Type 0 = λ o. StandsAt names (machine a) settings s own at log.books o in
        let is : IsOpened names (machine a) settings s own at log.books x = subst P found (st.each s) in
        record { opened = opened; open_yet = open_yet; limit = limit_here; come = is.come (sym is.ended ∙ open_yet) }

    was : (x : SessionValue) → find s sessions.all ≡ Some x → IsOpened names (machine a) settings s own at log.books x
    was x found = let P : Option SessionValue → Type 0 = λ o. StandsAt names (machine a) settings s own at log.books o in subst P found (st.each s)

    no_names : filter_map (λ l. opened_by l.event) (line ∷ []) ≡ []
    no_names = rw opens_none refl

    same_names : (later : SessionsValue) → names_of later.all ≡ names_of sessions.all → names_of later.all ≡ names_of sessions.all ++ filter_map (λ l. opened_by l.event) (line ∷ [])
    same_names later e = e ∙ sym (append-nil (names_of sessions.all)) ∙ ap (λ ns. names_of sessions.all ++ ns) (sym no_names)

    -- behind a line that runs its session on, or finds it stopped
    put : (y : SessionValue) (x : SessionValue) (next : Log) (later : SessionsValue) → find s sessions.all ≡ Some x → y.name ≡ x.name →
        later ≡ record sessions { all = replaced s y sessions.all } → tables_of next ≡ a → next.is_full ≡ false → Aside s log.books next.books →
        IsOpened names (machine a) settings s own now next.books y → next.text.items ≡ log.text.items ++ added → Stands settings script (past ++ line ∷ []) a next later
    put y x next later found named others tables room aside stands text =
        let y_named = named ∙ find_name s sessions.all x found in
        let all_is : later.all ≡ replaced s y sessions.all = ap (λ (v : SessionsValue). v.all) others in
        let D : List SessionValue → Type 0 = λ all. AreDistinct all in
        let P : Option SessionValue → Type 0 = λ o. StandsAt names (machine a) settings s own now next.books o in
        stepped settings script past a line log sessions next later st tables
        (ap (λ (v : SessionsValue). v.tables) others ∙ st.machine_tables) (ap (λ (v : SessionsValue). v.settings) others ∙ st.bounds) room
        (same_names later (ap names_of all_is ∙ names_replaced s y y_named sessions.all))
        (subst D (sym all_is) (distinct_replaced s y y_named sessions.all st.distinct))
        (λ t e. ap (find t) all_is ∙ find_other s y y_named t sessions.all e) aside
        (subst P (sym (ap (find s) all_is ∙ find_replaced s y y_named sessions.all x found)) stands)
        (text ∙ ap (λ more. log.text.items ++ more) (sym (gained_own settings script past a line)))

    -- the session that a line finds
    found_there : (x : SessionValue) × (find s sessions.all ≡ Some x)
    found_there = go (find s sessions.all) (st.each s)
      where
        go : (o : Option SessionValue) → StandsAt names (machine a) settings s own at log.books o → (x : SessionValue) × (o ≡ Some x)
        go None h = absurd (no (ap is_some h.opened) opened)
          where
            no : is_opened at ≡ false → is_opened at ≡ true → ⊥
            no e f = cc
        go (Some x) h = (x, refl)

    not_stopped : (x : SessionValue) → verdict_in sessions.tables x ≢ Error → verdict_of (machine a) (rest x.over x.session) ≢ Error
    not_stopped x h e = h (ap (λ v. verdict_in v x) st.machine_tables ∙ e)

    -- there is room for the piece
    pub has_room : (x : SessionValue) → find s sessions.all ≡ Some x → verdict_in sessions.tables x ≢ Error → (machine sessions.tables).width * x.base + length x.window + length (feeding_of line.event) < 2 ^ 63
    has_room x found h =
        let r = ready x found in
        let w = r.come.window (going_wants (machine a) x r.come.stopped (not_stopped x h)) in
        let P : Arrays → Type 0 = λ v. (machine v).width * x.base + length x.window + length (feeding_of line.event) < 2 ^ 63 in
        subst P (sym st.machine_tables)
        (fits ((machine a).width * x.base) (length (fed at)) (length x.window) (length (feeding_of line.event)) (length (fed at ++ feeding_of line.event)) w.within
        (sym (length-drop ((machine a).width * x.base) (fed at)) ∙ ap length w.same) (length-append (fed at) (feeding_of line.event)) r.limit)
      where
        fits : (base all window piece more : ℕ) → base ≤ all → all - base ≡ window → more ≡ all + piece → more < 2 ^ 63 → base + window + piece < 2 ^ 63
        fits base all window piece more within e f g = omega arith

    module _ (session : Text) (is_own : session.now ≡ s) where
      abbrev first : Log
      first = record log { session = session }

      -- a play of the session on its longer input
      moved_on : (x y : SessionValue) (r : Ready log x) → x.over ≡ None → (mid : Log) → mid.is_full ≡ false → (o : Outcome) (input : Input) →
          input ≡ input_at (machine a).width 0 (fed at ++ feeding_of line.event) (is_end line.event) →
          Played LogsCall first (run_on false (machine sessions.tables) sessions.settings input x.session) mid (rest (Some o) y.session) →
          Moved names a settings kinded s own at line first mid y.session o × Between s first mid
      moved_on x y r over_none mid room o input input_is p =
          let P : Arrays → Type 0 = λ v. Played LogsCall first (run_on false (machine v) sessions.settings input x.session) mid (rest (Some o) y.session) in
          let Q : Settings → Type 0 = λ v. Played LogsCall first (run_on false (machine a) v input x.session) mid (rest (Some o) y.session) in
          let R : Input → Type 0 = λ v. Played LogsCall first (run_on false (machine a) settings v x.session) mid (rest (Some o) y.session) in
          let q : Played LogsCall first (run_on false (machine a) settings (input_at (machine a).width 0 (fed at ++ feeding_of line.event) (is_end line.event)) x.session) mid (rest (Some o) y.session)
          = subst R input_is (subst Q st.bounds (subst P st.machine_tables p)) in (
            goes log x r over_none first mid refl refl st.tables is_own room y.session o q,
            between a s first mid _ (rest (Some o) y.session) (plays LogsCall first mid _ q.log (rest (Some o) y.session) q.chain q.calls) room st.tables is_own,
          )

      next_is : (y : SessionValue) (later : SessionsValue) → find s later.all ≡ Some y → next_of s later ≡ y.session.next
      next_is y later e = ap (λ o. unwrap_or (option_map (λ (v : SessionValue). v.session.next) o) 0) e

      found_later : (x y : SessionValue) (later : SessionsValue) → Becomes s sessions later x y → y.name ≡ x.name → find s later.all ≡ Some y
      found_later x y later b named =
          ap (λ (v : SessionsValue). find s v.all) b.others ∙ find_replaced s y (named ∙ find_name s sessions.all x b.found) sessions.all x b.found

      not_error : (x : SessionValue) → find s sessions.all ≡ Some x → HasNotStopped s sessions → verdict_of (machine a) (rest x.over x.session) ≢ Error
      not_error x found h e = h x found (ap (λ v. verdict_in v x) st.machine_tables ∙ e)

      is_error : (x : SessionValue) → find s sessions.all ≡ Some x → HasStopped s sessions → verdict_of (machine a) (rest x.over x.session) ≡ Error
      is_error x found h = sym (ap (λ v. verdict_in v x) st.machine_tables) ∙ h x found

      abbrev closing : List ℕ → Bool → Input
      closing bytes b = input_at (machine a).width 0 bytes b

      -- the window, by the width of the sessions' tables and of the machine's
      its_window : (x : SessionValue) → IsWindowOf (machine a).width (fed at) x → IsWindowOf (machine sessions.tables).width (fed at) x
      its_window x w = let P : Arrays → Type 0 = λ v. IsWindowOf (machine v).width (fed at) x in subst P (sym st.machine_tables) w

      at_width : (y : SessionValue) (bytes : List ℕ) → IsWindowOf (machine sessions.tables).width bytes y → IsWindowOf (machine a).width bytes y
      at_width y bytes w = let P : Arrays → Type 0 = λ v. IsWindowOf (machine v).width bytes y in subst P st.machine_tables w

      -- a piece is run
      fed_on : (last : Log) (later : SessionsValue) → is_end line.event ≡ false → FeedsOn s sessions later first last (feeding_of line.event) → Stands settings script (past ++ line ∷ []) a last later
      fed_on last later not_end f =
          let t = f.taken in
          let x = t.earlier in
          let y = t.later in
          let found = t.becomes.found in
          let r = ready x found in
          let over_none = going_wants (machine a) x r.come.stopped (not_error x found f.going) in
          let runs = t.takes.going over_none in
          let input_is : window_of (machine sessions.tables).width 0 (fed at ++ feeding_of line.event) ≡ input_at (machine a).width 0 (fed at ++ feeding_of line.event) (is_end line.event) =
          ap (λ v. window_of (machine v).width 0 (fed at ++ feeding_of line.event)) st.machine_tables ∙ ap (λ b. closing (fed at ++ feeding_of line.event) b) (sym not_end) in
          let (moved, aside) = moved_on x y r over_none f.mid f.room f.outcome (window_of (machine sessions.tables).width 0 (fed at ++ feeding_of line.event)) input_is (runs.played (fed at) (its_window x (r.come.window over_none))) in
          let C : Books → Type 0 = λ books. Counts (machine a) s own moved.calls books in
          let W : List ℕ → Type 0 = λ bytes. IsWindowOf (machine a).width bytes y in
          put y x last later found t.takes.name t.becomes.others
          (f.adds.tables ∙ aside.same_log.tables ∙ st.tables) (f.adds.room ∙ f.room) (aside_of s first f.mid last.books aside f.adds.books)
          (record {
            opened = opened_now names a settings kinded s own at line opened;
            ended = ended_more at line open_yet ∙ not_end ∙ sym (t.takes.is_closed ∙ t.becomes.was_live);
            come = λ _. record {
              calls = moved.calls;
              run = moved.run ∙ ap (λ p. run_pair moved.calls (Some p) y.session) (sym (outcome_kept f.outcome runs.unbroken) ∙ ap outcome_of (sym runs.over));
              counts = subst C (sym f.adds.books) moved.counts;
              window = λ e. subst W (sym (fed_more at line)) (at_width y (fed at ++ feeding_of line.event) (runs.window e (fed at) (its_window x (r.come.window over_none))));
              stopped = λ outcome e. stops_only f.outcome outcome
                  (λ ended. never_ends (machine a) settings (input_of (machine a).width now) (ended_more at line open_yet ∙ not_end) (host (machine a) own) [] moved.calls
                  (fresh ((machine a).entry (entry_of names now))) y.session (moved.run ∙ ap (λ p. run_pair moved.calls (Some p) y.session) ended))
                  (sym runs.over ∙ e);
            };
          })
          (f.adds.gains
          ∙ ap (λ n. f.mid.text.items ++ stop_text s f.outcome n) (next_is y later (found_later x y later t.becomes t.takes.name))
          ∙ ap (λ text. f.mid.text.items ++ text) (sym (append-nil (stop_text s f.outcome y.session.next)))
          ∙ ap (λ b. f.mid.text.items ++ (stop_text s f.outcome y.session.next ++ end_text (machine a) s (host (machine a) own) (rest (Some f.outcome) y.session) b)) (sym not_end)
          ∙ moved.text)

      -- a line that finds its session stopped
      stays : (x : SessionValue) (r : Ready log x) (cause : Stop) → x.over ≡ Some (Stopped cause) → (y : SessionValue) → y.session ≡ x.session → y.over ≡ x.over →
          Come now log.books y × (added ≡ end_text (machine a) s (host (machine a) own) (rest (Some (Stopped cause)) x.session) (is_end line.event))
      stays x r cause e y same_session same_over =
          let run = run_of log x r (Some (Stopped cause)) e in
          let on = stays_stopped names a settings kinded s own at line opened open_yet limit_here r.come.calls x.session cause run in (
            record {
              calls = r.come.calls;
              run = on ∙ ap (λ v. run_pair r.come.calls (Some (Stopped cause)) v) (sym same_session)
                  ∙ ap (λ p. run_pair r.come.calls (Some (outcome_of p)) y.session) (sym (same_over ∙ e));
              counts = r.come.counts;
              window = λ h. none_some (Stopped cause) (sym h ∙ (same_over ∙ e));
              stopped = λ outcome h. r.come.stopped outcome (sym same_over ∙ h);
            },
            gain_stopped names a settings kinded s own at line opened open_yet limit_here r.come.calls x.session cause run,
          )

      -- a piece of a session that has stopped does nothing
      idle : is_end line.event ≡ false → HasStopped s sessions → Stands settings script (past ++ line ∷ []) a first sessions
      idle not_end stopped =
          let (x, found) = found_there in
          let r = ready x found in
          let (cause, e) = error_stopped (machine a) x r.come.stopped (is_error x found stopped) in
          let (come, gain_is) = stays x r cause e x refl refl in
          let P : Option SessionValue → Type 0 = λ o. StandsAt names (machine a) settings s own now log.books o in
          let is : IsOpened names (machine a) settings s own at log.books x = was x found in
          stepped settings script past a line log sessions first sessions st st.tables st.machine_tables st.bounds st.room (same_names sessions refl) st.distinct (λ t e. refl) (aside_none s log.books)
          (subst P (sym found) (record {
            opened = opened_now names a settings kinded s own at line opened;
            ended = ended_more at line open_yet ∙ not_end ∙ sym (sym is.ended ∙ open_yet);
            come = λ _. come;
          }))
          (sym (append-nil log.text.items)
          ∙ ap (λ text. log.text.items ++ text)
          (ap (λ b. end_text (machine a) s (host (machine a) own) (rest (Some (Stopped cause)) x.session) b) (sym not_end) ∙ sym gain_is ∙ sym (gained_own settings script past a line)))

      pub fed_stands : (last : Log) (later : SessionsValue) → is_end line.event ≡ false → Feeds s sessions later first last (feeding_of line.event) → Stands settings script (past ++ line ∷ []) a last later
      fed_stands last later not_end (inl i) =
          let P : Log → Type 0 = λ v. Stands settings script (past ++ line ∷ []) a v later in
          let Q : SessionsValue → Type 0 = λ v. Stands settings script (past ++ line ∷ []) a first v in
          subst P (sym i.log) (subst Q (sym i.sessions) (idle not_end i.stopped))
      fed_stands last later not_end (inr f) = fed_on last later not_end f

      verdict_is : (y : SessionValue) (later : SessionsValue) → later.tables ≡ a → find s later.all ≡ Some y → deed.verdict_of s later ≡ verdict_of (machine a) (rest y.over y.session)
      verdict_is y later tables e =
          ap (λ o. unwrap_or (option_map (verdict_in later.tables) o) Partial) e ∙ ap (λ v. verdict_in v y) tables

      end_of_text : (y : SessionValue) (later : SessionsValue) → later.tables ≡ a → find s later.all ≡ Some y → (o : Outcome) → y.over ≡ Some o → (t : Session ℕ) → y.session ≡ t →
          end_line s (deed.verdict_of s later) (next_of s later) ≡ end_text (machine a) s (host (machine a) own) (rest (Some o) t) true
      end_of_text y later tables e o over t session =
          ap (λ v. end_line s v (next_of s later)) (verdict_is y later tables e ∙ ap (λ p. verdict_of (machine a) (rest p y.session)) over)
          ∙ ap (λ n. end_line s (verdict_of (machine a) (rest (Some o) y.session)) n) (next_is y later e)
          ∙ ap (λ v. end_line s (verdict_of (machine a) (rest (Some o) v)) v.next) session

      -- a session that was ended
      closed_stands : (y : SessionValue) (books : Books) → is_end line.event ≡ true → y.is_closed ≡ true → IsOpened names (machine a) settings s own now books y
      closed_stands y books ends closed = record {
        opened = opened_now names a settings kinded s own at line opened;
        ended = ended_more at line open_yet ∙ ends ∙ sym closed;
        come = λ h. absurd (true_false (sym closed ∙ h));
      }

      -- the end of a session that went on
      ends_on : (last : Log) (later : SessionsValue) → is_end line.event ≡ true → feeding_of line.event ≡ [] → (f : Finishes s sessions later first last) →
          f.taken.earlier.over ≡ None → f.was_stopped ≡ false → Stands settings script (past ++ line ∷ []) a last later
      ends_on last later ends no_bytes f over_none going =
          let t = f.taken in
          let x = t.earlier in
          let y = t.later in
          let found = t.becomes.found in
          let r = ready x found in
          let runs = t.ends.going over_none in
          let (moved, aside) = moved_on x y r over_none f.mid f.room f.outcome (closed_of (machine sessions.tables).width 0 (fed at))
          (ap (λ v. closed_of (machine v).width 0 (fed at)) st.machine_tables ∙ ap (λ bytes. closing bytes true) (sym (append-nil (fed at)) ∙ ap (λ bytes. fed at ++ bytes) (sym no_bytes)) ∙ ap (λ b. closing (fed at ++ feeding_of line.event) b) (sym ends))
          (runs.played (fed at) (its_window x (r.come.window over_none))) in
          let later_found = found_later x y later t.becomes t.ends.name in
          let later_tables = ap (λ (v : SessionsValue). v.tables) t.becomes.others ∙ st.machine_tables in
          put y x last later found t.ends.name t.becomes.others
          (f.adds.tables ∙ aside.same_log.tables ∙ st.tables) (f.adds.room ∙ f.room) (aside_of s first f.mid last.books aside f.adds.books)
          (closed_stands y last.books ends t.ends.is_closed)
          (f.adds.gains
          ∙ ap (λ b. f.mid.text.items ++ (cond b [] (stop_text s f.outcome (next_of s later)) ++ end_line s (deed.verdict_of s later) (next_of s later))) going
          ∙ ap (λ text. f.mid.text.items ++ (stop_text s f.outcome (next_of s later) ++ text)) (end_of_text y later later_tables later_found f.outcome runs.over y.session refl)
          ∙ ap (λ n. f.mid.text.items ++ (stop_text s f.outcome n ++ end_text (machine a) s (host (machine a) own) (rest (Some f.outcome) y.session) true)) (next_is y later later_found)
          ∙ ap (λ b. f.mid.text.items ++ (stop_text s f.outcome y.session.next ++ end_text (machine a) s (host (machine a) own) (rest (Some f.outcome) y.session) b)) (sym ends)
          ∙ moved.text)

      -- and of one that had stopped
      ends_stopped : (last : Log) (later : SessionsValue) → is_end line.event ≡ true → (f : Finishes s sessions later first last) →
          (cause : Stop) → f.taken.earlier.over ≡ Some (Stopped cause) → f.was_stopped ≡ true → Stands settings script (past ++ line ∷ []) a last later
      ends_stopped last later ends f cause over had =
          let t = f.taken in
          let x = t.earlier in
          let y = t.later in
          let found = t.becomes.found in
          let r = ready x found in
          let rests = t.ends.stopped (Stopped cause) over in
          let (come, gain_is) = stays x r cause over y rests.session_same rests.over_same in
          let later_found = found_later x y later t.becomes t.ends.name in
          let later_tables = ap (λ (v : SessionsValue). v.tables) t.becomes.others ∙ st.machine_tables in
          let A : Books → Type 0 = λ v. Aside s log.books v in
          put y x last later found t.ends.name t.becomes.others
          (f.adds.tables ∙ ap (λ (v : Log). tables_of v) rests.host_same ∙ st.tables) (f.adds.room ∙ f.room)
          (subst A (sym (f.adds.books ∙ ap (λ (v : Log). v.books) rests.host_same)) (aside_none s log.books))
          (closed_stands y last.books ends t.ends.is_closed)
          (f.adds.gains
          ∙ ap (λ b. f.mid.text.items ++ (cond b [] (stop_text s f.outcome (next_of s later)) ++ end_line s (deed.verdict_of s later) (next_of s later))) had
          ∙ ap (λ (v : Log). v.text.items ++ end_line s (deed.verdict_of s later) (next_of s later)) rests.host_same
          ∙ ap (λ text. log.text.items ++ text)
          (end_of_text y later later_tables later_found (Stopped cause) (rests.over_same ∙ over) x.session rests.session_same
          ∙ ap (λ b. end_text (machine a) s (host (machine a) own) (rest (Some (Stopped cause)) x.session) b) (sym ends) ∙ sym gain_is))

      pub ended_stands : (last : Log) (later : SessionsValue) → is_end line.event ≡ true → feeding_of line.event ≡ [] → Finishes s sessions later first last → Stands settings script (past ++ line ∷ []) a last later
      ended_stands last later ends no_bytes f = go f.was_stopped refl
        where
          go : (b : Bool) → f.was_stopped ≡ b → Stands settings script (past ++ line ∷ []) a last later
          go true e =
              let x = f.taken.earlier in
              let found = f.taken.becomes.found in
              let (cause, over) = error_stopped (machine a) x (ready x found).come.stopped (is_error x found (f.stopped e)) in
              ends_stopped last later ends f cause over e
          go false e =
              let x = f.taken.earlier in
              let found = f.taken.becomes.found in
              ends_on last later ends no_bytes f (going_wants (machine a) x (ready x found).come.stopped (not_error x found (f.going e))) e
