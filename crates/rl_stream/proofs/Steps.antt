-- The session and its log behind a piece, behind its stop and behind the end.
use Rattle.std.proofs.Common.{◌≡◌, ◌≢◌, ℕ, ◌+◌, ◌*◌, ◌^◌, ◌<◌, ◌≤◌, Bool, true, false, if◌then◌else◌, List, [], ◌∷◌, ◌++◌, map, length, drop, Option, Some, None, refl, sym, ◌∙◌, ap, subst, append_assoc, append-nil, arith}
use Rattle.std.specs.Prelude.{is_some}
use Rattle.std.specs.Str.{bytes_eq}
use Rattle.std.proofs.Math.ListN.{length-append}
use Rattle.std.proofs.lemmas.List.{length-drop}
use Rattle.std.proofs.lemmas.Slice.Eq.{bytes_eq-Decides}
use mathlib.Core.List.{map-append}
use Rattle.rl_run.specs.declared.calls.Answer.{Answer}
use Rattle.rl_run.specs.declared.calls.Call.{Call}
use Rattle.rl_run.specs.declared.calls.Outcome.{Outcome}
use Rattle.rl_run.specs.declared.calls.Outcome.TheVariants.{Wants, Broke, Ended, Stopped}
use Rattle.rl_run.specs.declared.calls.Verdict.{Verdict}
use Rattle.rl_run.specs.declared.sessions.Settings.{Settings}
use Rattle.rl_run.specs.Chain.{Chain}
use Rattle.rl_run.specs.Machine.{Machine, Session}
use Rattle.rl_run.specs.Run.{Rest, rest}
use Rattle.rl_run.specs.Verdict.{verdict_by, verdict_of}
use Rattle.rl_runner.specs.Feeds.{over_after}
use Rattle.rl_arrays.specs.declared.arrays.Arrays.{Arrays}
use Rattle.rl_arrays.specs.TableMachine.{machine}
use Rattle.rl_arrays.specs.Valid.{Valid}
use Rattle.rl_tables.proofs.Kinded.{is_kinded}
use Rattle.rl_replay.specs.Host.{host}
use Rattle.rl_replay.specs.Lines.{calls_lines, stop_lines, end_line}
use Rattle.rl_sessions.specs.SessionsValue.{SessionValue, SessionsValue, IsWindowOf, find, started, verdict_in}
use Rattle.rl_sessions.specs.Runs.{Takes, TakesPiece, Ends, TakesEnd}
use Rattle.rl_sessions.specs.Whole.{HasRun, outcome_so_far}
use Rattle.rl_sessions.proofs.Widths.{width_there}
use Rattle.rl_sessions.proofs.Whole.{starts_so, pieces_run_on, ends_run_out}
use Rattle.rl_stream.specs.declared.log.Log.{Log}
use Rattle.rl_stream.specs.Lines.{input_name, calls_in, IsHosted, lines_over, rest_of}
use Rattle.rl_stream.specs.Log.{LogsCall, tables_of}
use Rattle.rl_stream.specs.Stands.{HasLive, Stands, Taken, Adds, TakesMore, TakesLast, Feeds, Finishes, lines_of_calls, new_stop, stop_text}
use Rattle.rl_stream.proofs.Hosted.{lines_of_log}
use Rattle.rl_stream.proofs.Joined.{hosted_more, lines_more}
use Rattle.rl_stream.proofs.Told.{Told, told}

some_same : {A : Type 0} (x y : A) → Some x ≡ Some y → x ≡ y
some_same x y e = cc

-- ---- texts

append_none : (xs ys : List ℕ) → xs ++ ys ≡ xs → ys ≡ []
append_none [] ys e = e
append_none (x ∷ xs) ys e = append_none xs ys (behind x (xs ++ ys) xs e)
  where
    behind : (x : ℕ) (xs ys : List ℕ) → (x ∷ xs) ≡ (x ∷ ys) → xs ≡ ys
    behind x xs ys e = cc

-- more calls
fresh_text : (written first last more calls longer : List ℕ) → last ≡ first ++ more → written ++ first ≡ calls ++ [] → longer ≡ calls ++ more →
    written ++ last ≡ longer ++ []
fresh_text written first last more calls longer e f g =
    ap (λ t. written ++ t) e ∙ sym (append_assoc written first more) ∙ ap (λ t. t ++ more) (f ∙ append-nil calls) ∙ sym g ∙ sym (append-nil longer)

-- none, where the log stays
rest_text : (written first last more calls longer old_stop stop : List ℕ) → last ≡ first ++ more → last ≡ first → written ++ first ≡ calls ++ old_stop →
    longer ≡ calls ++ more → stop ≡ old_stop → written ++ last ≡ longer ++ stop
rest_text written first last more calls longer old_stop stop e same f g s =
    let none : more ≡ [] = append_none first more (sym e ∙ same) in
    let long : longer ≡ calls = g ∙ ap (λ t. calls ++ t) none ∙ append-nil calls in
    ap (λ t. written ++ t) same ∙ f ∙ ap (λ t. t ++ old_stop) (sym long) ∙ ap (λ t. longer ++ t) (sym s)

-- and the stop
stop_joined : (was_over : Bool) (written mid last calls stop told_stop : List ℕ) → last ≡ mid ++ (if was_over then [] else told_stop) →
    written ++ mid ≡ calls ++ (if was_over then stop else []) → told_stop ≡ stop → written ++ last ≡ calls ++ stop
stop_joined true written mid last calls stop told_stop e f g = ap (λ t. written ++ t) (e ∙ append-nil mid) ∙ f
stop_joined false written mid last calls stop told_stop e f g =
    ap (λ t. written ++ t) e ∙ sym (append_assoc written mid told_stop) ∙ ap (λ t. t ++ told_stop) (f ∙ append-nil calls) ∙ ap (λ t. calls ++ t) g

plain_stop : (o : Outcome) (s : Session ℕ) → stop_text o s.next ≡ stop_lines input_name (rest (Some o) s)
plain_stop Wants s = refl
plain_stop Broke s = refl
plain_stop Ended s = refl
plain_stop (Stopped cause) s = refl

stop_same : (over : Option Outcome) (s : Session ℕ) (o : Outcome) (n : ℕ) → outcome_so_far over ≡ o → n ≡ s.next →
    stop_text o n ≡ stop_lines input_name (rest (Some (outcome_so_far over)) s)
stop_same over s o n came next = ap (λ k. stop_text o k) next ∙ plain_stop o s ∙ ap (λ k. stop_lines input_name (rest (Some k) s)) (sym came)

so_far_after : (o : Outcome) → o ≢ Broke → outcome_so_far (over_after o) ≡ o
so_far_after Wants e = refl
so_far_after Broke e = absurd (e refl)
so_far_after Ended e = refl
so_far_after (Stopped cause) e = refl

verdict_same : (o : Option Outcome) (final : Bool) → verdict_by (Some (outcome_so_far o)) final ≡ verdict_by o final
verdict_same None final = refl
verdict_same (Some outcome) final = refl

-- ---- what stands

module _ (a : Arrays) (settings : Settings) (entry : ℕ) (bytes written : List ℕ) (over : Bool) (log : Log) (sessions : SessionsValue)
    (st : Stands a settings entry bytes written over log sessions) where
  -- its session is found, and takes more
  pub is_live : HasLive input_name sessions
  is_live = record { session = st.session; found = st.found; going = st.open_yet }

  -- it has room
  pub has_room : (piece : List ℕ) → length (bytes ++ piece) < 2 ^ 63 → (x : SessionValue) → find input_name sessions.all ≡ Some x → x.over ≡ None →
      (machine sessions.tables).width * x.base + length x.window + length piece < 2 ^ 63
  has_room piece below x e none =
      let same : x ≡ st.session = some_same x st.session (sym e ∙ st.found) in
      let w : IsWindowOf (machine a).width bytes x = subst (λ y. IsWindowOf (machine a).width bytes y) (sym same)
      (st.ran.window (ap (λ (y : SessionValue). y.over) (sym same) ∙ none)) in
      let long = length-drop ((machine a).width * x.base) bytes in
      let window = ap length w.same in
      let within = w.within in
      let both = length-append bytes piece in
      let small : (machine a).width * x.base + length x.window + length piece < 2 ^ 63 = omega (arith, below, long, window, within, both) in
      subst (λ b. (machine b).width * x.base + length x.window + length piece < 2 ^ 63) (sym st.tables) small

  -- what is written and what stands in the log are the lines of the run so far
  pub lines_so_far : written ++ log.text.items ≡ lines_over (machine a) settings entry bytes false
  lines_so_far =
      let at : lines_over (machine a) settings entry bytes st.session.is_closed ≡ _ = lines_of_log (machine a) settings entry bytes st.calls st.session st.ran st.hosted in
      let at_open : lines_over (machine a) settings entry bytes false ≡ (lines_of_calls a st.calls ++ stop_lines input_name (rest_of st.session)) ++ [] =
      subst (λ b. lines_over (machine a) settings entry bytes b ≡ (lines_of_calls a st.calls ++ stop_lines input_name (rest_of st.session))
      ++ (if b then end_line input_name (verdict_of (machine a) (rest_of st.session)) st.session.session.next else [])) st.open_yet at in
      st.text ∙ sym (at_open ∙ append-nil (lines_of_calls a st.calls ++ stop_lines input_name (rest_of st.session)))

-- before the first byte
pub stands_first : (a : Arrays) (settings : Settings) (entry : ℕ) (log : Log) (old new : SessionsValue) → Valid a → tables_of log ≡ a → log.text.items ≡ [] →
    old ≡ record { tables = a; settings = settings; all = [] } → new ≡ record old { all = old.all ++ started input_name ((machine old.tables).entry entry) ∷ [] } →
    Stands a settings entry [] [] false log new
stands_first a settings entry log old new valid tables empty none becomes =
    let here : bytes_eq input_name input_name ≡ true = (bytes_eq-Decides input_name input_name).1 refl in
    let one : SessionsValue → SessionsValue = λ v. record v { all = v.all ++ started input_name ((machine v.tables).entry entry) ∷ [] } in
    let alone : new ≡ record { tables = a; settings = settings; all = started input_name ((machine a).entry entry) ∷ [] } = becomes ∙ ap one none in
    subst (λ (v : SessionsValue). Stands a settings entry [] [] false log v) (sym alone) (record {
      valid = valid;
      log_tables = tables;
      tables = refl;
      bounds = refl;
      session = started input_name ((machine a).entry entry);
      found = ap (λ b. if b then Some (started input_name ((machine a).entry entry)) else None) here;
      open_yet = refl;
      over = refl;
      calls = [];
      ran = starts_so (machine a) settings entry input_name (width_there a);
      hosted = tt;
      text = empty;
    })

-- the same, of a name
pub stands_named : (a : Arrays) (settings : Settings) (entry : ℕ) (log : Log) (old new : SessionsValue) (name : List ℕ) → name ≡ input_name → Valid a → tables_of log ≡ a →
    log.text.items ≡ [] → old ≡ record { tables = a; settings = settings; all = [] } →
    new ≡ record old { all = old.all ++ started name ((machine old.tables).entry entry) ∷ [] } → Stands a settings entry [] [] false log new
stands_named a settings entry log old new name same valid tables empty none becomes =
    stands_first a settings entry log old new valid tables empty none
    (subst (λ n. new ≡ record old { all = old.all ++ started n ((machine old.tables).entry entry) ∷ [] }) same becomes)

-- ---- calls

module _ (a : Arrays) (settings : Settings) (entry : ℕ) {H : Type 0} (step : H → Call → Answer → H → Type 0) (log_of : H → Log) (name_of : H → ℕ)
    (tells : (h : H) (c : Call) (x : Answer) (k : H) → step h c x k → LogsCall (log_of h) c x (log_of k))
    (named : (h : H) (c : Call) (x : Answer) (k : H) → step h c x k → name_of k ≡ name_of h) where
  chain_logged : (h last : H) (log : List (Call × Answer)) → Chain step h log last → Chain LogsCall (log_of h) log (log_of last)
  chain_logged h last [] e = ap log_of e
  chain_logged h last (y ∷ log) (mid, w, chain) = (log_of mid, tells h y.0 y.1 mid w, chain_logged mid last log chain)

  chain_name : (h last : H) (log : List (Call × Answer)) → Chain step h log last → name_of last ≡ name_of h
  chain_name h last [] e = ap name_of (sym e)
  chain_name h last (y ∷ log) (mid, w, chain) = chain_name mid last log chain ∙ named h y.0 y.1 mid w

  module _ (h last : H) (bytes written : List ℕ) (was_over : Bool) (old new : SessionsValue) (st : Stands a settings entry bytes written was_over (log_of h) old) where
    -- a session that was over stays
    abbrev Stays : SessionValue → Type 0
    Stays y = (o : Outcome) → st.session.over ≡ Some o → (log_of last ≡ log_of h) × (y.session ≡ st.session.session) × (y.over ≡ st.session.over)

    taken_text : (y : SessionValue) → Stays y → (more : List (Call × Answer)) → Told a (calls_in st.calls) (log_of h) (log_of last) more →
        written ++ (log_of last).text.items ≡ lines_of_calls a (st.calls ++ more) ++ (if was_over then stop_lines input_name (rest_of y) else [])
    taken_text y stays more t = go st.session.over refl
      where
        longer : lines_of_calls a (st.calls ++ more) ≡ lines_of_calls a st.calls ++ calls_lines (machine a) input_name (host (machine a) []) (calls_in st.calls) (calls_in more)
        longer =
            ap (λ u. calls_lines (machine a) input_name (host (machine a) []) [] u) (map-append (λ (z : Call × Answer). z.0) st.calls more)
            ∙ lines_more (machine a) [] (calls_in st.calls) (calls_in more)

        By : Bool → Type 0
        By w = written ++ (log_of last).text.items ≡ lines_of_calls a (st.calls ++ more) ++ (if w then stop_lines input_name (rest_of y) else [])

        go : (over : Option Outcome) → st.session.over ≡ over → By was_over
        go None e =
            let none : stop_lines input_name (rest_of st.session) ≡ [] = ap (λ o. stop_lines input_name (rest (Some (outcome_so_far o)) st.session.session)) e in
            subst By (sym (st.over ∙ ap is_some e))
            (fresh_text written (log_of h).text.items (log_of last).text.items (calls_lines (machine a) input_name (host (machine a) []) (calls_in st.calls) (calls_in more))
            (lines_of_calls a st.calls) (lines_of_calls a (st.calls ++ more)) t.text (st.text ∙ ap (λ u. lines_of_calls a st.calls ++ u) none) longer)
        go (Some o) e =
            let s = stays o e in
            let same : stop_lines input_name (rest_of y) ≡ stop_lines input_name (rest_of st.session) =
            ap (λ u. stop_lines input_name (rest (Some (outcome_so_far u)) y.session)) s.2
            ∙ ap (λ u. stop_lines input_name (rest (Some (outcome_so_far st.session.over)) u)) s.1 in
            subst By (sym (st.over ∙ ap is_some e))
            (rest_text written (log_of h).text.items (log_of last).text.items (calls_lines (machine a) input_name (host (machine a) []) (calls_in st.calls) (calls_in more))
            (lines_of_calls a st.calls) (lines_of_calls a (st.calls ++ more)) (stop_lines input_name (rest_of st.session)) (stop_lines input_name (rest_of y))
            t.text (ap (λ (l : Log). l.text.items) s.0) st.text longer same)

    behind : (is_closed : Bool) (longer : List ℕ) (outcome : Outcome) (y : SessionValue) → new.tables ≡ old.tables → new.settings ≡ old.settings →
        find input_name new.all ≡ Some y → y.is_closed ≡ is_closed → outcome_so_far y.over ≡ outcome → (is_closed ≡ false → y.over ≡ over_after outcome) → Stays y →
        (more : List (Call × Answer)) → Chain step h more last → HasRun (machine a) settings entry longer (st.calls ++ more) y → (log_of last).is_full ≡ false →
        Taken a settings entry longer written was_over is_closed outcome (log_of last) new
    behind is_closed longer outcome y tables bounds found closed came over stays more chain ran room =
        let t = told a (calls_in st.calls) (log_of h) (log_of last) more (chain_logged h last more chain) room st.log_tables in
        record {
          valid = st.valid;
          log_tables = t.tables;
          tables = tables ∙ st.tables;
          bounds = bounds ∙ st.bounds;
          session = y;
          found = found;
          closed = closed;
          came = came;
          over = over;
          calls = st.calls ++ more;
          ran = ran;
          hosted = hosted_more (machine a) [] st.calls more st.hosted t.hosted;
          text = taken_text y stays more t;
        }

    piece_taken : (piece : List ℕ) (o : Outcome) → length (bytes ++ piece) < 2 ^ 63 → TakesPiece step h last input_name old new piece o →
        (name_of last ≡ name_of h) × ((log_of last).is_full ≡ false → Taken a settings entry (bytes ++ piece) written was_over false o (log_of last) new)
    piece_taken piece o below t =
        let same : t.earlier ≡ st.session = some_same t.earlier st.session (sym t.becomes.found ∙ st.found) in
        let takes : Takes step (machine a) settings piece h last st.session t.later o =
        subst (λ x. Takes step (machine a) settings piece h last x t.later o) same
        (subst (λ s. Takes step (machine a) s piece h last t.earlier t.later o) st.bounds
        (subst (λ b. Takes step (machine b) old.settings piece h last t.earlier t.later o) st.tables t.takes)) in
        let r = pieces_run_on step (machine a) (width_there a) (is_kinded a st.valid) settings entry bytes piece st.calls st.session t.later o h last below st.open_yet st.ran takes in
        let ends = came takes st.session.over refl in (
          chain_name h last r.0 r.1,
          behind false (bytes ++ piece) o t.later (ap (λ (v : SessionsValue). v.tables) t.becomes.others) (ap (λ (v : SessionsValue). v.settings) t.becomes.others)
              t.becomes.finds (takes.is_closed ∙ st.open_yet) ends.0 (λ open_yet. ends.1)
              (λ p e. (ap log_of (takes.stopped p e).host_same, (takes.stopped p e).session_same, (takes.stopped p e).over_same)) r.0 r.1 r.2,
        )
      where
        came : {y : SessionValue} → Takes step (machine a) settings piece h last st.session y o → (over : Option Outcome) → st.session.over ≡ over →
            (outcome_so_far y.over ≡ o) × (y.over ≡ over_after o)
        came takes None e =
            let r = takes.going e in
            (ap outcome_so_far r.over ∙ so_far_after o r.unbroken, r.over)
        came takes (Some p) e =
            let r = takes.stopped p e in
            let over = r.over_same ∙ e in
            (ap outcome_so_far over ∙ sym r.outcome_same, over ∙ sym (ap over_after r.outcome_same ∙ st.ran.kept p e))

    end_taken : (o : Outcome) → length bytes < 2 ^ 63 → TakesEnd step h last input_name old new o →
        (name_of last ≡ name_of h) × ((log_of last).is_full ≡ false → Taken a settings entry bytes written was_over true o (log_of last) new)
    end_taken o below t =
        let same : t.earlier ≡ st.session = some_same t.earlier st.session (sym t.becomes.found ∙ st.found) in
        let ends : Ends step (machine a) settings h last st.session t.later o =
        subst (λ x. Ends step (machine a) settings h last x t.later o) same
        (subst (λ s. Ends step (machine a) s h last t.earlier t.later o) st.bounds
        (subst (λ b. Ends step (machine b) old.settings h last t.earlier t.later o) st.tables t.ends)) in
        let r = ends_run_out step (machine a) (width_there a) (is_kinded a st.valid) settings entry bytes st.calls st.session t.later o h last below st.open_yet st.ran ends in (
          chain_name h last r.0 r.1,
          behind true bytes o t.later (ap (λ (v : SessionsValue). v.tables) t.becomes.others) (ap (λ (v : SessionsValue). v.settings) t.becomes.others)
              t.becomes.finds ends.is_closed (came ends st.session.over refl) (λ open_yet. absurd (differ open_yet))
              (λ p e. (ap log_of (ends.stopped p e).host_same, (ends.stopped p e).session_same, (ends.stopped p e).over_same)) r.0 r.1 r.2,
        )
      where
        differ : true ≡ false → ⊥
        differ e = cc

        came : {y : SessionValue} → Ends step (machine a) settings h last st.session y o → (over : Option Outcome) → st.session.over ≡ over → outcome_so_far y.over ≡ o
        came ends None e = ap outcome_so_far (ends.going e).over
        came ends (Some p) e = ap outcome_so_far ((ends.stopped p e).over_same ∙ e) ∙ sym (ends.stopped p e).outcome_same

    -- of the session of a name
    pub piece_taken_by : (name : List ℕ) → name ≡ input_name → (piece : List ℕ) (o : Outcome) → length (bytes ++ piece) < 2 ^ 63 → TakesPiece step h last name old new piece o →
        (name_of last ≡ name_of h) × ((log_of last).is_full ≡ false → Taken a settings entry (bytes ++ piece) written was_over false o (log_of last) new)
    piece_taken_by name e piece o below t = piece_taken piece o below (subst (λ n. TakesPiece step h last n old new piece o) e t)

    pub end_taken_by : (name : List ℕ) → name ≡ input_name → (o : Outcome) → length bytes < 2 ^ 63 → TakesEnd step h last name old new o →
        (name_of last ≡ name_of h) × ((log_of last).is_full ≡ false → Taken a settings entry bytes written was_over true o (log_of last) new)
    end_taken_by name e o below t = end_taken o below (subst (λ n. TakesEnd step h last n old new o) e t)

-- ---- with the stop, and the end

pub fed : (was_over is_over : Bool) (piece : List ℕ) (outcome : Outcome) (next : ℕ) (old mid new : Log) (from to : SessionsValue) →
    TakesMore was_over piece outcome old mid from to → ((x : SessionValue) → find input_name to.all ≡ Some x → next ≡ x.session.next) →
    Adds mid new (new_stop was_over outcome next) → is_over ≡ is_some (over_after outcome) → Feeds was_over is_over piece old new from to
fed was_over is_over piece outcome next old mid new from to takes at adds over = record {
  feeds = λ a settings entry bytes written small st.
      let k = takes.taken a settings entry bytes written small st in
      record {
        valid = k.valid;
        log_tables = adds.tables ∙ k.log_tables;
        tables = k.tables;
        bounds = k.bounds;
        session = k.session;
        found = k.found;
        open_yet = k.closed;
        over = over ∙ ap is_some (sym (k.over refl));
        calls = k.calls;
        ran = k.ran;
        hosted = k.hosted;
        text = stop_joined was_over written mid.text.items new.text.items (lines_of_calls a k.calls) (stop_lines input_name (rest_of k.session)) (stop_text outcome next)
            adds.items k.text (stop_same k.session.over k.session.session outcome next k.came (at k.session k.found));
      };
}

pub finished : (was_over : Bool) (outcome : Outcome) (next : ℕ) (verdict : Verdict) (old mid third new : Log) (from to : SessionsValue) →
    TakesLast was_over outcome old mid from to → ((x : SessionValue) → find input_name to.all ≡ Some x → next ≡ x.session.next) →
    Adds mid third (new_stop was_over outcome next) → ((x : SessionValue) → find input_name to.all ≡ Some x → verdict ≡ verdict_in to.tables x) →
    Adds third new (end_line input_name verdict next) → Finishes was_over old new from
finished was_over outcome next verdict old mid third new from to takes at adds says ends = record {
  lines = λ a settings entry bytes written small st.
      let k = takes.taken a settings entry bytes written small st in
      let stopped : written ++ third.text.items ≡ lines_of_calls a k.calls ++ stop_lines input_name (rest_of k.session) =
      stop_joined was_over written mid.text.items third.text.items (lines_of_calls a k.calls) (stop_lines input_name (rest_of k.session)) (stop_text outcome next)
      adds.items k.text (stop_same k.session.over k.session.session outcome next k.came (at k.session k.found)) in
      let said : verdict ≡ verdict_of (machine a) (rest_of k.session) =
      says k.session k.found ∙ ap (λ b. verdict_in b k.session) k.tables ∙ sym (verdict_same k.session.over ((machine a).final k.session.session.state)) in
      let line : end_line input_name verdict next ≡ end_line input_name (verdict_of (machine a) (rest_of k.session)) k.session.session.next =
      ap (λ v. end_line input_name v next) said ∙ ap (λ n. end_line input_name (verdict_of (machine a) (rest_of k.session)) n) (at k.session k.found) in
      let before = lines_of_calls a k.calls ++ stop_lines input_name (rest_of k.session) in
      let last = end_line input_name (verdict_of (machine a) (rest_of k.session)) k.session.session.next in
      let run : lines_over (machine a) settings entry bytes true ≡ before ++ last =
      subst (λ b. lines_over (machine a) settings entry bytes b ≡ before ++ (if b then last else [])) k.closed
      (lines_of_log (machine a) settings entry bytes k.calls k.session k.ran k.hosted) in
      ap (λ t. written ++ t) ends.items ∙ sym (append_assoc written third.text.items (end_line input_name verdict next))
      ∙ ap (λ t. t ++ end_line input_name verdict next) stopped ∙ ap (λ t. before ++ t) line ∙ sym run;
}
