-- A replay stands behind the line at a place of the script.
use Rattle.std.proofs.Common.{◌≡◌, ◌≢◌, ℕ, suc, ◌+◌, ◌*◌, ◌<◌, ◌^◌, Bool, true, false, nat_le, ◌==◌, List, [], ◌∷◌, ◌++◌, length, take, drop, get_or, Option, Some, None, sym, ◌∙◌, ap, subst}
use Rattle.rl_run.specs.declared.sessions.Settings.{Settings}
use Rattle.rl_run.specs.declared.calls.Verdict.TheVariants.{Error}
use Rattle.rl_arrays.specs.declared.arrays.Arrays.{Arrays}
use Rattle.rl_arrays.specs.TableMachine.{machine}
use Rattle.rl_tables.proofs.Kinded.{is_kinded}
use Rattle.rl_replay.specs.declared.script.Event.{Event}
use Rattle.rl_replay.specs.declared.script.Event.TheVariants.{Open, Piece, End, Pick, Say}
use Rattle.rl_replay.specs.declared.script.Line.{Line}
use Rattle.rl_replay.specs.declared.script.ScriptFault.TheVariants.{Twice, NoSession, NoEntry, Full}
use Rattle.rl_replay.specs.Sessions.{session_of, opening_of, feeding_of, is_end, opened_by, only, is_opened, is_ended, entry_or_start, live, fault_of}
use Rattle.rl_script.specs.TableNames.{names_in}
use Rattle.rl_sessions.specs.SessionsValue.{SessionValue, SessionsValue, find, refusal, verdict_in}
use Rattle.rl_playback.specs.declared.log.Log.{Log}
use Rattle.rl_playback.specs.Books.{Text}
use Rattle.rl_playback.specs.Deeds.{HasLive, Opens, Feeds, Finishes}
use Rattle.rl_playback.specs.Stands.{Stands}
use Rattle.rl_playback.proofs.Admitted.{finds_live, not_refused}
use Rattle.rl_playback.proofs.Fronts.{take_next, cut_there}
use Rattle.rl_playback.proofs.LineSteps.{fed_stands, ended_stands, has_room}
use Rattle.rl_playback.proofs.QuietSteps.{quiet_stands, open_stands}
use Rattle.rl_playback.proofs.Steps.{no_fault, is_live_there, is_new_there}

module _ (settings : Settings) (script : List Line) (place : ℕ) (a : Arrays) (log : Log) (sessions : SessionsValue) (line : Line)
    (less : place < length script) (item : line ≡ get_or script place line) (st : Stands settings script (take place script) a log sessions) where
  abbrev past : List Line
  past = take place script

  whole : script ≡ past ++ line ∷ drop (suc place) script
  whole = cut_there script place line less item

  on : (next : Log) (later : SessionsValue) → Stands settings script (past ++ line ∷ []) a next later → Stands settings script (take (place + 1) script) a next later
  on next later h = let P : List Line → Type 0 = λ lines. Stands settings script lines a next later in subst P (sym (take_next script place line less item)) h

  at_event : (event : Event) → line.event ≡ event → fault_of (names_in a) script past line.number event ≡ None
  at_event event e = ap (λ v. fault_of (names_in a) script past line.number v) (sym e) ∙ no_fault (names_in a) script past line (drop (suc place) script) whole st.admitted

  abbrev LiveAt : List ℕ → Type 0
  LiveAt s = (is_opened (only s past) ≡ true) × (is_ended (only s past) ≡ false)

  live_at : (event : Event) → line.event ≡ event → LiveAt (session_of event) → LiveAt (session_of line.event)
  live_at event e h = let P : Event → Type 0 = λ v. LiveAt (session_of v) in subst P (sym e) h

  module _ (name piece : List ℕ) (is : line.event ≡ Piece name piece) where
    piece_live : LiveAt (session_of line.event)
    piece_live = live_at (Piece name piece) is (is_live_there (is_opened (only name past)) (is_ended (only name past)) (NoSession line.number) (at_event (Piece name piece) is))

    pub piece_finds : (n : List ℕ) → n ≡ name → HasLive n sessions
    piece_finds n e =
        let P : List ℕ → Type 0 = λ s. HasLive s sessions in
        subst P (ap (λ v. session_of v) is ∙ sym e) (finds_live settings script past a log sessions st (session_of line.event) piece_live.0 piece_live.1)

    names_none : opened_by line.event ≡ None
    names_none = ap (λ v. opened_by v) is

    pub piece_room : (n p : List ℕ) → n ≡ name → p ≡ piece → (x : SessionValue) → find n sessions.all ≡ Some x → verdict_in sessions.tables x ≢ Error →
        (machine sessions.tables).width * x.base + length x.window + length p < 2 ^ 63
    piece_room n p e f x found h =
        let P : List ℕ → Type 0 = λ bytes. (machine sessions.tables).width * x.base + length x.window + length bytes < 2 ^ 63 in
        subst P (ap (λ v. feeding_of v) is ∙ sym f)
        (has_room settings script past a line (is_kinded a st.valid) log sessions st (drop (suc place) script) whole piece_live.0 piece_live.1 names_none x
        (ap (λ s. find s sessions.all) (ap (λ v. session_of v) is ∙ sym e) ∙ found) h)

    pub piece_stands : (session : Text) (n p : List ℕ) → session.now ≡ name → n ≡ name → p ≡ piece → (next : Log) (later : SessionsValue) →
        Feeds n sessions later (record log { session = session }) next p → Stands settings script (take (place + 1) script) a next later
    piece_stands session n p e f g next later feeds =
        let P : List ℕ → Type 0 = λ s. Feeds s sessions later (record log { session = session }) next p in
        let Q : List ℕ → Type 0 = λ bytes. Feeds (session_of line.event) sessions later (record log { session = session }) next bytes in
        on next later
        (fed_stands settings script past a line (is_kinded a st.valid) log sessions st (drop (suc place) script) whole piece_live.0 piece_live.1 names_none session
        (e ∙ sym (ap (λ v. session_of v) is)) next later (ap (λ v. is_end v) is)
        (subst Q (g ∙ sym (ap (λ v. feeding_of v) is)) (subst P (f ∙ sym (ap (λ v. session_of v) is)) feeds)))

  module _ (name : List ℕ) (is : line.event ≡ End name) where
    end_live : LiveAt (session_of line.event)
    end_live = live_at (End name) is (is_live_there (is_opened (only name past)) (is_ended (only name past)) (NoSession line.number) (at_event (End name) is))

    pub end_finds : (n : List ℕ) → n ≡ name → HasLive n sessions
    end_finds n e =
        let P : List ℕ → Type 0 = λ s. HasLive s sessions in
        subst P (ap (λ v. session_of v) is ∙ sym e) (finds_live settings script past a log sessions st (session_of line.event) end_live.0 end_live.1)

    pub end_stands : (session : Text) (n : List ℕ) → session.now ≡ name → n ≡ name → (next : Log) (later : SessionsValue) →
        Finishes n sessions later (record log { session = session }) next → Stands settings script (take (place + 1) script) a next later
    end_stands session n e f next later finishes =
        let P : List ℕ → Type 0 = λ s. Finishes s sessions later (record log { session = session }) next in
        on next later
        (ended_stands settings script past a line (is_kinded a st.valid) log sessions st (drop (suc place) script) whole end_live.0 end_live.1 (ap (λ v. opened_by v) is) session
        (e ∙ sym (ap (λ v. session_of v) is)) next later (ap (λ v. is_end v) is) (ap (λ v. feeding_of v) is)
        (subst P (f ∙ sym (ap (λ v. session_of v) is)) finishes))

  module _ (name : List ℕ) (entry : Option (List ℕ)) (is : line.event ≡ Open name entry) where
    opens_new : (is_opened (only name past) ≡ false) × ((entry_or_start (names_in a) entry == 0) ≡ false) × (nat_le 1024 (length (live past)) ≡ false)
    opens_new =
        is_new_there (is_opened (only name past)) (entry_or_start (names_in a) entry == 0) (nat_le 1024 (length (live past))) (Twice line.number) (NoEntry line.number) (Full line.number)
        (at_event (Open name entry) is)

    pub entry_there : entry_or_start (names_in a) entry ≢ 0
    entry_there e = no (sym (ap (λ n. n == 0) e) ∙ opens_new.1)
      where
        no : true ≡ false → ⊥
        no e = cc

    pub opening_admitted : (n : List ℕ) → n ≡ name → refusal n sessions.all ≡ None
    opening_admitted n e =
        let P : List ℕ → Type 0 = λ s. refusal s sessions.all ≡ None in
        subst P (sym e) (not_refused settings script past a log sessions st name opens_new.0 opens_new.2)

  pub opening_stands : (name : List ℕ) (entry : Option (List ℕ)) → line.event ≡ Open name entry → (n : List ℕ) → n ≡ name → (later : SessionsValue) →
      Opens n (entry_or_start (names_in a) entry) sessions later → Stands settings script (take (place + 1) script) a log later
  opening_stands name entry is n f later opens =
      let P : List ℕ → Type 0 = λ s. Opens s (entry_or_start (names_in a) entry) sessions later in
      on log later
      (open_stands settings script past a line log sessions st entry later (ap (λ v. opening_of v) is) (ap (λ v. feeding_of v) is) (ap (λ v. is_end v) is)
      (ap (λ v. opened_by v) is ∙ ap (λ s. Some s) (sym (ap (λ v. session_of v) is)))
      (subst P (f ∙ sym (ap (λ v. session_of v) is)) opens))

  pub pick_stands : (name action : List ℕ) (n : ℕ) (list : List _) → line.event ≡ Pick name action n list → Stands settings script (take (place + 1) script) a log sessions
  pick_stands name action n list is =
      on log sessions (quiet_stands settings script past a line log sessions st (ap (λ v. opening_of v) is) (ap (λ v. feeding_of v) is) (ap (λ v. is_end v) is) (ap (λ v. opened_by v) is))

  pub say_stands : (name condition : List ℕ) (n : ℕ) (holds : Bool) → line.event ≡ Say name condition n holds → Stands settings script (take (place + 1) script) a log sessions
  say_stands name condition n holds is =
      on log sessions (quiet_stands settings script past a line log sessions st (ap (λ v. opening_of v) is) (ap (λ v. feeding_of v) is) (ap (λ v. is_end v) is) (ap (λ v. opened_by v) is))
