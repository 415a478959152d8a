-- A session with its tally before its input, behind a piece, behind the end, and what is told of it.
use Rattle.std.proofs.Common.{◌≡◌, ℕ, ◌+◌, ◌*◌, ◌^◌, ◌<◌, ◌≤◌, Bool, true, false, List, [], ◌∷◌, ◌++◌, map, length, drop, Option, Some, None, refl, sym, ◌∙◌, ap, subst, arith}
use Rattle.std.specs.Option.{option_map}
use Rattle.std.specs.Prelude.{count_by, unwrap_or}
use Rattle.std.proofs.Math.ListN.{length-append}
use Rattle.std.proofs.lemmas.List.{length-drop}
use Rattle.std.specs.Str.{bytes_eq}
use Rattle.std.proofs.lemmas.Slice.Eq.{bytes_eq-Decides}
use Rattle.rl_run.specs.declared.calls.Answer.{Answer}
use Rattle.rl_run.specs.declared.calls.Call.{Call}
use Rattle.rl_run.specs.declared.calls.Outcome.{Outcome}
use Rattle.rl_run.specs.declared.calls.Verdict.{Verdict}
use Rattle.rl_run.specs.declared.calls.Verdict.TheVariants.{Partial}
use Rattle.rl_playback.specs.Deeds.{verdict_of as told_of}
use Rattle.rl_run.specs.declared.sessions.Settings.{Settings}
use Rattle.rl_run.specs.Chain.{Chain, IsLogOf, run_on}
use Rattle.rl_run.specs.Machine.{fresh}
use Rattle.rl_run.specs.Run.{Rest, rest, input_at}
use Rattle.rl_run.specs.Verdict.{verdict_by, verdict_of}
use Rattle.rl_arrays.specs.declared.arrays.Arrays.{Arrays}
use Rattle.rl_arrays.specs.Rules.{start_entry}
use Rattle.rl_arrays.specs.TableMachine.{machine}
use Rattle.rl_arrays.specs.Valid.{Valid}
use Rattle.rl_tables.proofs.Kinded.{is_kinded}
use Rattle.rl_sessions.specs.SessionsValue.{SessionValue, SessionsValue, IsWindowOf, find, started, verdict_in}
use Rattle.rl_sessions.specs.Runs.{Takes, TakesPiece, Ends, TakesEnd}
use Rattle.rl_sessions.specs.Whole.{HasRun, outcome_so_far}
use Rattle.rl_sessions.proofs.Widths.{width_there}
use Rattle.rl_sessions.proofs.Whole.{starts_so, pieces_run_on, ends_run_out}
use Rattle.rl_made.specs.Made.{is_token, run_over, tokens_over, verdict_over}
use Rattle.rl_made.specs.Tally.{Counts, Tells}
use Rattle.rl_made.specs.Stands.{AreOwn, Stands, tokens_among}
use Rattle.rl_made.specs.declared.tally.Tally.{Tally}
use Rattle.rl_made.proofs.Hosts.{hosted_log, own_joined, tokens_joined, chain_told, chain_name}

some_same : {A : Type 0} (x y : A) → Some x ≡ Some y → x ≡ y
some_same x y e = cc

some_none : {A : Type 0} (x : A) → None ≡ Some x → ⊥
some_none x e = cc

pub stands_first : (a : Arrays) (settings : Settings) (name : List ℕ) (tally : Tally) (sessions : SessionsValue) → Valid a → tally.names.tables.now ≡ a →
    tally.tokens ≡ Some 0 → sessions ≡ record { tables = a; settings = settings; all = started name ((machine a).entry (start_entry a)) ∷ [] } →
    Stands a settings name false [] tally sessions
stands_first a settings name tally sessions valid same none alone =
    let here : bytes_eq name name ≡ true = (bytes_eq-Decides name name).1 refl in
    let P : SessionsValue → Type 0 = λ v. Stands a settings name false [] tally v in
    subst P (sym alone) (record {
      valid = valid;
      tally_tables = same;
      tables = refl;
      bounds = refl;
      session = started name ((machine a).entry (start_entry a));
      found = rw here refl;
      closed = refl;
      log = [];
      ran = starts_so (machine a) settings (start_entry a) name (width_there a);
      own = tt;
      counts = subst (λ t. Counts t 0) (sym none) refl;
    })

module _ (a : Arrays) (settings : Settings) (name input : List ℕ) (tally : Tally) (old : SessionsValue) (st : Stands a settings name false input tally old) where
  -- there is a session of the name
  pub finds : (x : SessionValue) → find name old.all ≡ Some x → x ≡ st.session
  finds x e = some_same x st.session (sym e ∙ st.found)

  pub is_live : (x : SessionValue) → find name old.all ≡ Some x → x.is_closed ≡ true → ⊥
  is_live x e closed = differ (sym closed ∙ ap (λ (y : SessionValue). y.is_closed) (finds x e) ∙ st.closed)
    where
      differ : true ≡ false → ⊥
      differ e = cc

  -- it has room
  pub has_room : (piece : List ℕ) → length (input ++ piece) < 2 ^ 63 → (x : SessionValue) → find name old.all ≡ Some x → x.over ≡ None →
      (machine old.tables).width * x.base + length x.window + length piece < 2 ^ 63
  has_room piece below x e none =
      let same : x ≡ st.session = finds x e in
      let w : IsWindowOf (machine a).width input x = subst (λ y. IsWindowOf (machine a).width input y) (sym same)
      (st.ran.window (ap (λ (y : SessionValue). y.over) (sym same) ∙ none)) in
      let long = length-drop ((machine a).width * x.base) input in
      let window = ap length w.same in
      let within = w.within in
      let both = length-append input piece in
      let small : (machine a).width * x.base + length x.window + length piece < 2 ^ 63 = omega (arith, below, long, window, within, both) in
      subst (λ b. (machine b).width * x.base + length x.window + length piece < 2 ^ 63) (sym st.tables) small

module _ (a : Arrays) (settings : Settings) (name : List ℕ) {H : Type 0} (step : H → Call → Answer → H → Type 0) (tally_of : H → Tally) (name_of : H → ℕ)
    (tells : (h : H) (c : Call) (x : Answer) (k : H) → step h c x k → Tells (tally_of h) c x (tally_of k))
    (named : (h : H) (c : Call) (x : Answer) (k : H) → step h c x k → name_of k ≡ name_of h)
    (h last : H) (input : List ℕ) (old new : SessionsValue) (st : Stands a settings name false input (tally_of h) old) where
  -- more calls
  more_calls : (is_closed : Bool) (longer : List ℕ) (y : SessionValue) → new.tables ≡ old.tables → new.settings ≡ old.settings → find name new.all ≡ Some y →
      y.is_closed ≡ is_closed → (more : List (Call × Answer)) → Chain step h more last → HasRun (machine a) settings (start_entry a) longer (st.log ++ more) y →
      (name_of last ≡ name_of h) × Stands a settings name is_closed longer (tally_of last) new
  more_calls is_closed longer y tables bounds found closed more chain ran =
      let told = chain_told step tally_of tells h last more chain in (
        chain_name step name_of named h last more chain,
        record {
          valid = st.valid;
          tally_tables = told.tables ∙ st.tally_tables;
          tables = tables ∙ st.tables;
          bounds = bounds ∙ st.bounds;
          session = y;
          found = found;
          closed = closed;
          log = st.log ++ more;
          ran = ran;
          own = own_joined (machine a) st.log more st.own (subst (λ b. AreOwn (machine b) more) st.tally_tables told.own);
          counts = subst (λ n. Counts (tally_of last).tokens n) (sym (tokens_joined st.log more)) (told.counts (tokens_among st.log) st.counts);
        },
      )

  pub piece_stands : (piece : List ℕ) (o : Outcome) → length (input ++ piece) < 2 ^ 63 → TakesPiece step h last name old new piece o →
      (name_of last ≡ name_of h) × Stands a settings name false (input ++ piece) (tally_of last) new
  piece_stands piece o below t =
      let same : t.earlier ≡ st.session = finds a settings name input (tally_of h) old st t.earlier t.becomes.found in
      let takes : Takes step (machine a) settings piece h last t.earlier t.later o =
      subst (λ s. Takes step (machine a) s piece h last t.earlier t.later o) st.bounds
      (subst (λ b. Takes step (machine b) old.settings piece h last t.earlier t.later o) st.tables t.takes) in
      let ran : HasRun (machine a) settings (start_entry a) input st.log t.earlier =
      subst (λ x. HasRun (machine a) settings (start_entry a) input st.log x) (sym same) st.ran in
      let open_yet : t.earlier.is_closed ≡ false = ap (λ (x : SessionValue). x.is_closed) same ∙ st.closed in
      let r = pieces_run_on step (machine a) (width_there a) (is_kinded a st.valid) settings (start_entry a) input piece st.log t.earlier t.later o h last below open_yet ran takes in
      more_calls false (input ++ piece) t.later (ap (λ (v : SessionsValue). v.tables) t.becomes.others) (ap (λ (v : SessionsValue). v.settings) t.becomes.others)
      t.becomes.finds (takes.is_closed ∙ open_yet) r.0 r.1 r.2

  pub piece_stands_at : (piece longer : List ℕ) (o : Outcome) → input ++ piece ≡ longer → length longer < 2 ^ 63 → TakesPiece step h last name old new piece o →
      (name_of last ≡ name_of h) × Stands a settings name false longer (tally_of last) new
  piece_stands_at piece longer o e below t =
      subst (λ l. (name_of last ≡ name_of h) × Stands a settings name false l (tally_of last) new) e
      (piece_stands piece o (subst (λ l. length l < 2 ^ 63) (sym e) below) t)

  pub end_stands : (o : Outcome) → length input < 2 ^ 63 → TakesEnd step h last name old new o →
      (name_of last ≡ name_of h) × Stands a settings name true input (tally_of last) new
  end_stands o below t =
      let same : t.earlier ≡ st.session = finds a settings name input (tally_of h) old st t.earlier t.becomes.found in
      let ends : Ends step (machine a) settings h last t.earlier t.later o =
      subst (λ s. Ends step (machine a) s h last t.earlier t.later o) st.bounds
      (subst (λ b. Ends step (machine b) old.settings h last t.earlier t.later o) st.tables t.ends) in
      let ran : HasRun (machine a) settings (start_entry a) input st.log t.earlier =
      subst (λ x. HasRun (machine a) settings (start_entry a) input st.log x) (sym same) st.ran in
      let open_yet : t.earlier.is_closed ≡ false = ap (λ (x : SessionValue). x.is_closed) same ∙ st.closed in
      let r = ends_run_out step (machine a) (width_there a) (is_kinded a st.valid) settings (start_entry a) input st.log t.earlier t.later o h last below open_yet ran ends in
      more_calls true input t.later (ap (λ (v : SessionsValue). v.tables) t.becomes.others) (ap (λ (v : SessionsValue). v.settings) t.becomes.others)
      t.becomes.finds ends.is_closed r.0 r.1 r.2

-- ---- behind the end

verdict_same : (o : Option Outcome) (final : Bool) → verdict_by (Some (outcome_so_far o)) final ≡ verdict_by o final
verdict_same None final = refl
verdict_same (Some outcome) final = refl

abbrev pair : {A : Type 0} → List Call → A → List Call × A
pair calls a = (calls, a)

module _ (a : Arrays) (settings : Settings) (name input : List ℕ) (tally : Tally) (sessions : SessionsValue) (st : Stands a settings name true input tally sessions) where
  run_is : run_over a settings input ≡ pair (map (λ x. x.0) st.log) (rest (Some (outcome_so_far st.session.over)) st.session.session)
  run_is =
      let m = machine a in
      hosted_log m (run_on false m settings (input_at m.width 0 input true) (fresh (m.entry (start_entry a)))) st.log [] (rest (Some (outcome_so_far st.session.over)) st.session.session) st.own
      (subst (λ c. IsLogOf (run_on false m settings (input_at m.width 0 input c) (fresh (m.entry (start_entry a)))) st.log (rest (Some (outcome_so_far st.session.over)) st.session.session)) st.closed
      st.ran.ran)

  pub tokens_told : (tokens : ℕ) → tally.tokens ≡ Some tokens → tokens ≡ tokens_over a settings input
  tokens_told tokens e =
      let counted : Counts (Some tokens) (tokens_among st.log) = subst (λ t. Counts t (tokens_among st.log)) e st.counts in
      counted ∙ sym (ap (λ (r : List Call × Rest ℕ). count_by (λ (c : Call). is_token c.kind) r.0) run_is)

  pub verdict_told : told_of name sessions ≡ verdict_over a settings input
  verdict_told =
      ap (λ o. unwrap_or (option_map (verdict_in sessions.tables) o) Partial) st.found
      ∙ ap (λ b. verdict_in b st.session) st.tables
      ∙ sym (verdict_same st.session.over ((machine a).final st.session.session.state))
      ∙ sym (ap (λ (r : List Call × Rest ℕ). verdict_of (machine a) r.1) run_is)

pub stands_started : (a : Arrays) (settings : Settings) (name : List ℕ) (tally : Tally) (old new : SessionsValue) (entry : ℕ) → Valid a →
    tally.names.tables.now ≡ a → tally.tokens ≡ Some 0 → old ≡ record { tables = a; settings = settings; all = [] } → entry ≡ start_entry a →
    new ≡ record old { all = old.all ++ started name ((machine old.tables).entry entry) ∷ [] } → Stands a settings name false [] tally new
stands_started a settings name tally old new entry valid same none empty start becomes =
    let one : SessionsValue → ℕ → SessionsValue = λ v e. record v { all = v.all ++ started name ((machine v.tables).entry e) ∷ [] } in
    stands_first a settings name tally new valid same none (becomes ∙ λ j. one (empty j) (start j))
