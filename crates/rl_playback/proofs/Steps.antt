-- A replay stands behind one line more.
use Rattle.std.proofs.Common.{◌≡◌, ℕ, ◌+◌, ◌≤◌, ◌<◌, ◌^◌, Bool, true, false, cond, not, ◌&&◌, List, [], ◌∷◌, ◌++◌, length, drop, filter_map, Option, Some, None, refl, sym, ◌∙◌, ap, subst, append_assoc, append-nil, length-append, arith}
use Rattle.std.specs.Bool.{then_some}
use Rattle.std.specs.Option.{option_or}
use Rattle.std.specs.Str.{bytes_eq}
use Rattle.std.proofs.lemmas.Grind.{flat_map-append}
use Rattle.std.proofs.lemmas.List.Elements.{filter_map-append}
use Rattle.std.proofs.lemmas.Slice.Eq.{bytes_eq-Decides}
use Rattle.rl_run.specs.declared.calls.Call.{Call}
use Rattle.rl_run.specs.declared.sessions.Settings.{Settings}
use Rattle.rl_run.specs.Machine.{Machine}
use Rattle.rl_arrays.specs.declared.arrays.Arrays.{Arrays}
use Rattle.rl_arrays.specs.TableMachine.{machine}
use Rattle.rl_replay.specs.declared.script.Line.{Line}
use Rattle.rl_replay.specs.declared.script.ScriptFault.{ScriptFault}
use Rattle.rl_replay.specs.Sessions.{Names, session_of, names_session, feeding_of, only, opened_by, fed, fault_of, fault_from, first_fault}
use Rattle.rl_replay.specs.Written.{Part, texts, gained, added, parts_from, session_lines}
use Rattle.rl_replay.proofs.Projection.{only_more}
use Rattle.rl_script.specs.TableNames.{names_in}
use Rattle.rl_sessions.specs.SessionsValue.{SessionValue, SessionsValue, find}
use Rattle.rl_playback.specs.declared.books.Books.{Books}
use Rattle.rl_playback.specs.declared.log.Log.{Log}
use Rattle.rl_playback.specs.Books.{Named, answer_in, count_in}
use Rattle.rl_playback.specs.Log.{tables_of}
use Rattle.rl_playback.specs.Stands.{Counts, HasCome, StandsAt, AreDistinct, Stands}
use Rattle.rl_playback.proofs.Answered.{bytes_turned}
use Rattle.rl_playback.proofs.Between.{Between}
use Rattle.rl_playback.proofs.Finds.{names_of}

-- what calls of one session leave of the books
pub record Aside (s : List ℕ) (old new : Books) : Type 0 where
  pub picks : new.picks.answers ≡ old.picks.answers
  pub asks : new.asks.answers ≡ old.asks.answers
  pub pick_counts : (q : Named) → bytes_eq q.0 s ≡ false → count_in q new.picks.counts ≡ count_in q old.picks.counts
  pub ask_counts : (q : Named) → bytes_eq q.0 s ≡ false → count_in q new.asks.counts ≡ count_in q old.asks.counts

pub aside_none : (s : List ℕ) (books : Books) → Aside s books books
aside_none s books = record { picks = refl; asks = refl; pick_counts = λ q e. refl; ask_counts = λ q e. refl }

pub aside_of : (s : List ℕ) (first mid : Log) (books : Books) → Between s first mid → books ≡ mid.books → Aside s first.books books
aside_of s first mid books b e =
    let P : Books → Type 0 = λ v. Aside s first.books v in
    subst P (sym e) (record { picks = b.same_log.picks; asks = b.same_log.asks; pick_counts = b.other_picks; ask_counts = b.other_asks })

module _ (names : Names) (m : Machine ℕ) (settings : Settings) (s t : List ℕ) (own past : List Line) (old new : Books) (aside : Aside s old new) (apart : bytes_eq t s ≡ false) where
  counts_aside : (calls : List Call) → Counts m t own calls old → Counts m t own calls new
  counts_aside calls c = record {
    picks = λ u n. ap (λ answers. answer_in (t, u) n answers) aside.picks ∙ c.picks u n;
    says = λ u n. ap (λ answers. answer_in (t, u) n answers) aside.asks ∙ c.says u n;
    pick_counts = λ u. aside.pick_counts (t, u) apart ∙ c.pick_counts u;
    ask_counts = λ u. aside.ask_counts (t, u) apart ∙ c.ask_counts u;
  }

  come_aside : (x : SessionValue) → HasCome names m settings t own past old x → HasCome names m settings t own past new x
  come_aside x h = record { calls = h.calls; run = h.run; counts = counts_aside h.calls h.counts; window = h.window; stopped = h.stopped }

  -- another session stands where it stood
  pub stands_aside : (o : Option SessionValue) → StandsAt names m settings t own past old o → StandsAt names m settings t own past new o
  stands_aside None h = record { opened = h.opened; fed = h.fed; ended = h.ended; counts = counts_aside [] h.counts }
  stands_aside (Some x) h = record { opened = h.opened; ended = h.ended; come = λ e. come_aside x (h.come e) }

module _ (names : Names) (m : Machine ℕ) (settings : Settings) (script : List Line) where
  parts_more : (past xs : List Line) (line : Line) →
      parts_from names m settings script past (xs ++ line ∷ []) ≡ parts_from names m settings script past xs ++ added names m settings script (past ++ xs) line ∷ []
  parts_more past [] line = ap (λ p. added names m settings script p line ∷ []) (sym (append-nil past))
  parts_more past (x ∷ xs) line =
      ap (λ parts. added names m settings script past x ∷ parts)
      (parts_more (past ++ x ∷ []) xs line
      ∙ ap (λ p. parts_from names m settings script (past ++ x ∷ []) xs ++ added names m settings script p line ∷ []) (append_assoc past (x ∷ []) xs))

  texts_more : (past : List Line) (line : Line) →
      texts (parts_from names m settings script [] (past ++ line ∷ [])) ≡ texts (parts_from names m settings script [] past) ++ gained names m settings script past line (session_of line.event)
  texts_more past line =
      ap texts (parts_more [] past line)
      ∙ flat_map-append (λ (part : Part). part.text) (parts_from names m settings script [] past) (added names m settings script past line ∷ [])
      ∙ ap (λ text. texts (parts_from names m settings script [] past) ++ text) (append-nil (gained names m settings script past line (session_of line.event)))

module _ (settings : Settings) (script past : List Line) (a : Arrays) (line : Line) where
  abbrev s : List ℕ
  s = session_of line.event

  abbrev m : Machine ℕ
  m = machine a

  abbrev own : List Line
  own = only s script

  abbrev now : List Line
  now = only s past ++ line ∷ []

  pub own_line : only s (past ++ line ∷ []) ≡ now
  own_line = only_more s past line true ((bytes_eq-Decides s s).1 refl)

  -- what the line adds, by the session's lines alone
  pub gained_own : gained (names_in a) m settings script past line s
      ≡ drop (length (session_lines (names_in a) m settings s own (only s past))) (session_lines (names_in a) m settings s own now)
  gained_own = ap (λ lines. drop (length (session_lines (names_in a) m settings s own (only s past))) (session_lines (names_in a) m settings s own lines)) own_line

  -- all sessions, where the line's own stands behind the line
  pub stepped : (log : Log) (sessions : SessionsValue) (next : Log) (later : SessionsValue) → Stands settings script past a log sessions →
      tables_of next ≡ a → later.tables ≡ a → later.settings ≡ settings → next.is_full ≡ false →
      names_of later.all ≡ names_of sessions.all ++ filter_map (λ l. opened_by l.event) (line ∷ []) → AreDistinct later.all →
      ((t : List ℕ) → bytes_eq s t ≡ false → find t later.all ≡ find t sessions.all) → Aside s log.books next.books →
      StandsAt (names_in a) m settings s own now next.books (find s later.all) →
      next.text.items ≡ log.text.items ++ gained (names_in a) m settings script past line s →
      Stands settings script (past ++ line ∷ []) a next later
  stepped log sessions next later st tables machine_tables bounds room names distinct others aside stands text = record {
    valid = st.valid;
    admitted = st.admitted;
    small = st.small;
    tables = tables;
    machine_tables = machine_tables;
    bounds = bounds;
    room = room;
    names = names ∙ ap (λ ns. ns ++ filter_map (λ l. opened_by l.event) (line ∷ [])) st.names ∙ sym (filter_map-append (λ l. opened_by l.event) past (line ∷ []));
    distinct = distinct;
    each = λ t. go t (bytes_eq s t) refl;
    text = text ∙ ap (λ front. front ++ gained (names_in a) m settings script past line s) st.text ∙ sym (texts_more (names_in a) m settings script past line);
  }
    where
      go : (t : List ℕ) (b : Bool) → bytes_eq s t ≡ b → StandsAt (names_in a) m settings t (only t script) (only t (past ++ line ∷ [])) next.books (find t later.all)
      go t true e =
          let P : List ℕ → Type 0 = λ u. StandsAt (names_in a) m settings u (only u script) (only u (past ++ line ∷ [])) next.books (find u later.all) in
          let Q : List Line → Type 0 = λ lines. StandsAt (names_in a) m settings s own lines next.books (find s later.all) in
          subst P ((bytes_eq-Decides s t).0 e) (subst Q (sym own_line) stands)
      go t false e =
          let Q : List Line → Type 0 = λ lines. StandsAt (names_in a) m settings t (only t script) lines next.books (find t later.all) in
          let R : Option SessionValue → Type 0 = λ o. StandsAt (names_in a) m settings t (only t script) (only t past) next.books o in
          subst Q (sym (only_more t past line false e ∙ append-nil (only t past)))
          (subst R (sym (others t e))
          (stands_aside (names_in a) m settings s t (only t script) (only t past) log.books next.books aside (bytes_turned t s ∙ e) (find t sessions.all) (st.each t)))

-- ---- what an admitted script says of a line

or_none : {A : Type 0} (o p : Option A) → option_or o p ≡ None → (o ≡ None) × (p ≡ None)
or_none None p e = (refl, e)
or_none (Some x) p e = absurd (cc e)

fault_at : (names : Names) (all past xs : List Line) (line : Line) (rest : List Line) → fault_from names all past (xs ++ line ∷ rest) ≡ None →
    fault_of names all (past ++ xs) line.number line.event ≡ None
fault_at names all past [] line rest e =
    ap (λ p. fault_of names all p line.number line.event) (append-nil past)
    ∙ (or_none (fault_of names all past line.number line.event) (fault_from names all (past ++ line ∷ []) rest) e).0
fault_at names all past (x ∷ xs) line rest e =
    ap (λ p. fault_of names all p line.number line.event) (sym (append_assoc past (x ∷ []) xs))
    ∙ fault_at names all (past ++ x ∷ []) xs line rest (or_none (fault_of names all past x.number x.event) (fault_from names all (past ++ x ∷ []) (xs ++ line ∷ rest)) e).1

pub no_fault : (names : Names) (script past : List Line) (line : Line) (rest : List Line) → script ≡ past ++ line ∷ rest → first_fault names script ≡ None →
    fault_of names script past line.number line.event ≡ None
no_fault names script past line rest whole e = fault_at names script [] past line rest (ap (λ lines. fault_from names script [] lines) (sym whole) ∙ e)

pub is_live_there : (a b : Bool) (fault : ScriptFault) → then_some (not (a && not b)) fault ≡ None → (a ≡ true) × (b ≡ false)
is_live_there true false fault e = (refl, refl)
is_live_there true true fault e = absurd (cc e)
is_live_there false b fault e = absurd (cc e)

pub is_new_there : (known none full : Bool) (f g h : ScriptFault) → option_or (then_some known f) (option_or (then_some none g) (then_some full h)) ≡ None →
    (known ≡ false) × (none ≡ false) × (full ≡ false)
is_new_there true none full f g h e = absurd (cc e)
is_new_there false true full f g h e = absurd (cc e)
is_new_there false false true f g h e = absurd (cc e)
is_new_there false false false f g h e = (refl, refl, refl)

-- ---- all pieces of a session are among those of the script

fed_only : (t : List ℕ) (lines : List Line) → length (fed (only t lines)) ≤ length (fed lines)
fed_only t [] = omega arith
fed_only t (line ∷ lines) = go (fed_only t lines) (names_session t line)
  where
    go : length (fed (only t lines)) ≤ length (fed lines) → (b : Bool) → length (fed (cond b (line ∷ only t lines) (only t lines))) ≤ length (fed (line ∷ lines))
    go ih true =
        let p = length-append (feeding_of line.event) (fed (only t lines)) in
        let q = length-append (feeding_of line.event) (fed lines) in
        omega arith
    go ih false = let q = length-append (feeding_of line.event) (fed lines) in omega arith

pub fed_fits : (t : List ℕ) (script past : List Line) (line : Line) (rest : List Line) → script ≡ past ++ line ∷ rest → length (fed script) < 2 ^ 63 →
    length (fed (only t (past ++ line ∷ []))) < 2 ^ 63
fed_fits t script past line rest whole small =
    let front : script ≡ (past ++ line ∷ []) ++ rest = whole ∙ sym (append_assoc past (line ∷ []) rest) in
    let e : length (fed script) ≡ length (fed (past ++ line ∷ [])) + length (fed rest) =
    ap (λ lines. length (fed lines)) front ∙ ap length (flat_map-append (λ (l : Line). feeding_of l.event) (past ++ line ∷ []) rest) ∙ length-append (fed (past ++ line ∷ [])) (fed rest) in
    let h = fed_only t (past ++ line ∷ []) in
    omega arith
