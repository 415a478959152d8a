-- A session's calls are those of the run from its start.
use Rattle.std.proofs.Common.{◌≡◌, ℕ, zero, suc, ◌*◌, ◌-◌, ◌<◌, ◌≤◌, Bool, true, false, cond, List, [], ◌∷◌, ◌++◌, map, length, Option, Some, None, refl, sym, ◌∙◌, ap, subst, arith, nat_lt, append-nil}
use Rattle.std.specs.Prelude.{◌/◌, slice_get}
use Rattle.rl_types.specs.Alphabet.{characters}
use Rattle.std.proofs.Math.Nat.{div-le_self}
use Rattle.std.proofs.lemmas.List.{length-map, map-append}
use Rattle.rl_types.proofs.Characters.{characters_of_front}
use Rattle.rl_run.specs.declared.calls.Answer.{Answer}
use Rattle.rl_run.specs.declared.calls.Call.{Call}
use Rattle.rl_run.specs.declared.calls.Outcome.{Outcome}
use Rattle.rl_run.specs.declared.calls.Outcome.TheVariants.{Wants, Broke, Ended, Stopped}
use Rattle.rl_run.specs.declared.sessions.Flow.{Flow}
use Rattle.rl_run.specs.declared.sessions.Flow.TheVariants.{Goes, Jumps, Breaks, Stops}
use Rattle.rl_run.specs.declared.sessions.Settings.{Settings}
use Rattle.rl_run.specs.Machine.{Machine, Session, fresh}
use Rattle.rl_run.specs.Picks.{came}
use Rattle.rl_run.specs.Turn.{turn}
use Rattle.rl_run.specs.Run.{Input, Rest, rest, input_at, letter, after, at_end, at_letter, turns}
use Rattle.rl_run.specs.Play.{Play, done, ask, AllEnds, Log, ended, stands, run}
use Rattle.rl_run.specs.Chain.{Chain, Extends, IsLogOf, run_on}
use Rattle.rl_run.specs.Fine.{IsKinded, weight}
use Rattle.rl_run.specs.Laws.{IsLonger}
use Rattle.rl_run.proofs.Answers.{is_continued, is_stopped}
use Rattle.rl_run.proofs.Ends.{leaves_bind}
use Rattle.rl_run.proofs.Starts.{start_fine}
use Rattle.rl_runner.specs.Feeds.{over_after}
use Rattle.rl_runner.proofs.Letters.{limit, letter_past}
use Rattle.rl_sessions.specs.SessionsValue.{SessionValue, started}
use Rattle.rl_sessions.specs.Whole.{outcome_so_far, HasRun, PiecesRunOn, EndsRunOut}
use Rattle.rl_sessions.proofs.Laws.{nothing_dropped}
use Rattle.rl_sessions.proofs.Ones.{none_some, over_some}
use Rattle.rl_sessions.proofs.Shorts.{leaves_any}

-- ---- a run over an input that may go on wants more or stops

abbrev IsOpenOrStopped : Option Outcome → Type 0
IsOpenOrStopped None = Unit {0}
IsOpenOrStopped (Some Wants) = Unit {0}
IsOpenOrStopped (Some (Stopped cause)) = Unit {0}
IsOpenOrStopped (Some Broke) = ⊥
IsOpenOrStopped (Some Ended) = ⊥

module _ {S : Type 0} (m : Machine S) (settings : Settings) (input : Input) (not_closed : input.is_closed ≡ false) where
  abbrev Right : Rest S → Type 0
  Right r = IsOpenOrStopped r.outcome

  behind : (n : ℕ) → ((s : Session S) → AllEnds Right (turns false m settings input n s)) → (flow : Flow) (u : Session S) →
      AllEnds Right (after false (came flow u) (λ v. turns false m settings input n v))
  unfolding after
  behind n ih Goes u = ih u
  behind n ih Jumps u = ih u
  behind n ih Breaks u = ih u
  behind n ih (Stops cause) u = tt

  lettered : (n : ℕ) → ((s : Session S) → AllEnds Right (turns false m settings input n s)) → (s : Session S) (l : Option ℕ) →
      AllEnds Right (at_letter false m settings input (λ v. turns false m settings input n v) s l)
  unfolding at_letter
  lettered n ih s (Some character) =
      leaves_bind (λ c. Unit {0}) Right (turn m settings s character) (λ c. after false c (λ v. turns false m settings input n v))
      (leaves_any (turn m settings s character)) (λ c _. behind n ih c.flow c.session)
  lettered n ih s None =
      subst (λ d. AllEnds Right (cond d (at_end false m settings input (λ v. turns false m settings input n v) s) (done (rest (Some Wants) s))))
      (sym not_closed) tt

  never_ends : (n : ℕ) (s : Session S) → AllEnds Right (turns false m settings input n s)
  unfolding turns
  never_ends zero s = tt
  never_ends (suc n) s = lettered n (never_ends n) s (letter input s.next)

  run_right : (s : Session S) → AllEnds Right (run_on false m settings input s)
  unfolding run_on
  run_right s = never_ends (suc (weight s)) s

-- what holds wherever a program may end holds where its log ends
leaf_run : {A : Type 0} (P : A → Type 0) (p : Play A) (answers : List Answer) (calls : List Call) (a : A) → AllEnds P p →
    run p answers ≡ record { calls = calls; reached = ended a } → P a
leaf_run P (done x) answers calls a l e = subst P (ended_same x a (ap (λ (k : Log _). k.reached) e)) l
  where
    ended_same : {A : Type 0} (x a : A) → ended x ≡ ended a → x ≡ a
    ended_same x a e = cc
leaf_run P (ask c f) [] calls a l e = absurd (no (ap (λ (k : Log _). k.reached) e))
  where
    no : stands (ask c f) ≡ ended a → ⊥
    no e = cc
leaf_run P (ask c f) (x ∷ answers) calls a l e =
    let r = run (f x) answers in
    leaf_run P (f x) answers r.calls a (l x) (subst (λ z. r ≡ record { calls = r.calls; reached = z }) (ap (λ (k : Log _). k.reached) e) refl)

-- ---- logs

joined_log : {A : Type 0} (p : Play A) (log more : List (Call × Answer)) (a : A) →
    run p (map (λ x. x.1) log ++ map (λ x. x.1) more) ≡ record { calls = map (λ x. x.0) log ++ map (λ x. x.0) more; reached = ended a } →
    IsLogOf p (log ++ more) a
joined_log p log more a e =
    subst (λ answers. run p answers ≡ record { calls = map (λ (x : Call × Answer). x.0) (log ++ more); reached = ended a })
    (sym (map-append (λ (x : Call × Answer). x.1) log more))
    (subst (λ calls. run p (map (λ (x : Call × Answer). x.1) log ++ map (λ (x : Call × Answer). x.1) more) ≡ record { calls = calls; reached = ended a })
    (sym (map-append (λ (x : Call × Answer). x.0) log more)) e)

as_long : (log : List (Call × Answer)) → length (map (λ (x : Call × Answer). x.0) log) ≡ length (map (λ (x : Call × Answer). x.1) log)
as_long log = length-map log (λ (x : Call × Answer). x.0) ∙ sym (length-map log (λ (x : Call × Answer). x.1))

so_far : (o : Outcome) → (o ≡ Broke → ⊥) → outcome_so_far (over_after o) ≡ o
so_far Wants n = refl
so_far Broke n = absurd (n refl)
so_far Ended n = refl
so_far (Stopped cause) n = refl

over_kept : (outcome o : Outcome) → over_after outcome ≡ Some o → over_after o ≡ Some o
over_kept Wants o e = none_some o e
over_kept Broke o e = none_some o e
over_kept Ended o e = subst (λ p. over_after p ≡ Some p) (same o e) refl
  where
    same : (o : Outcome) → Some Ended ≡ Some o → Ended ≡ o
    same o e = cc
over_kept (Stopped cause) o e = subst (λ p. over_after p ≡ Some p) (same o e) refl
  where
    same : (o : Outcome) → Some (Stopped cause) ≡ Some o → Stopped cause ≡ o
    same o e = cc

told_at : (m : Machine ℕ) (settings : Settings) (start : Session ℕ) (bytes : List ℕ) (c d : Bool) (o p : Outcome) (log : List (Call × Answer))
    (s t : Session ℕ) →
    d ≡ c → p ≡ o → t ≡ s → IsLogOf (run_on false m settings (input_at m.width 0 bytes c) start) log (rest (Some o) s) →
    IsLogOf (run_on false m settings (input_at m.width 0 bytes d) start) log (rest (Some p) t)
told_at m settings start bytes c d o p log s t e f g q =
    subst (λ v. IsLogOf (run_on false m settings (input_at m.width 0 bytes v) start) log (rest (Some p) t)) (sym e)
    (subst (λ v. IsLogOf (run_on false m settings (input_at m.width 0 bytes c) start) log (rest (Some v) t)) (sym f)
    (subst (λ v. IsLogOf (run_on false m settings (input_at m.width 0 bytes c) start) log (rest (Some o) v)) (sym g) q))

-- ---- the start

waits : {S : Type 0} (m : Machine S) (settings : Settings) (input : Input) (n : ℕ) (s : Session S) → letter input s.next ≡ None → input.is_closed ≡ false →
    run (turns false m settings input (suc n) s) [] ≡ record { calls = []; reached = ended (rest (Some Wants) s) }
unfolding turns at_letter
waits m settings input n s e f = rw (e, f) refl

pub starts_so : (m : Machine ℕ) (settings : Settings) (entry : ℕ) (name : List ℕ) → 0 < m.width → HasRun m settings entry [] [] (started name (m.entry entry))
unfolding run_on
starts_so m settings entry name some =
    let none : m.width * 0 ≡ 0 = omega arith in
    let no_character : 0 / m.width ≤ 0 = div-le_self 0 m.width in
    let s = fresh (m.entry entry) in
    record {
      window = λ _. record { within = omega arith; same = nothing_dropped (m.width * 0) [] none };
      ran = waits m settings (input_at m.width 0 [] false) (weight s) s (letter_past m.width 0 [] false 0 (omega arith)) refl;
      kept = λ o e. none_some o e;
    }

-- ---- one call more

module _ (m : Machine ℕ) (some : 0 < m.width) (kinded : IsKinded m) (settings : Settings) (entry : ℕ) (input : List ℕ) (log : List (Call × Answer))
    (x : SessionValue)
    (open_yet : x.is_closed ≡ false) (has : HasRun m settings entry input log x) (long : Input) (longer : IsLonger (input_at m.width 0 input false) long) where
  abbrev start : Session ℕ
  start = fresh (m.entry entry)

  so_ran : (o : Option Outcome) → x.over ≡ o →
      IsLogOf (run_on false m settings (input_at m.width 0 input false) start) log (rest (Some (outcome_so_far o)) x.session)
  so_ran o e =
      subst (λ c. IsLogOf (run_on false m settings (input_at m.width 0 input c) start) log (rest (Some (outcome_so_far o)) x.session)) open_yet
      (subst (λ p. IsLogOf (run_on false m settings (input_at m.width 0 input x.is_closed) start) log (rest (Some (outcome_so_far p)) x.session)) e has.ran)

  -- a run that goes on
  goes_further : x.over ≡ None → (more : List (Call × Answer)) (outcome : Outcome) (u : Session ℕ) →
      IsLogOf (run_on false m settings long x.session) more (rest (Some outcome) u) →
      IsLogOf (run_on false m settings long start) (log ++ more) (rest (Some outcome) u)
  goes_further e more outcome u second =
      joined_log (run_on false m settings long start) log more (rest (Some outcome) u)
      (is_continued m settings (input_at m.width 0 input false) long start x.session u (map (λ (y : Call × Answer). y.1) log)
      (map (λ (y : Call × Answer). y.1) more)
      (map (λ (y : Call × Answer). y.0) log) (map (λ (y : Call × Answer). y.0) more) outcome kinded (start_fine m entry kinded) longer (as_long log)
      (so_ran None e) second)

  -- a run that stopped
  stays_so : (o : Outcome) → x.over ≡ Some o → IsLogOf (run_on false m settings long start) (log ++ []) (rest (Some o) x.session)
  stays_so o e =
      subst (λ l. IsLogOf (run_on false m settings long start) l (rest (Some o) x.session)) (sym (append-nil log))
      (go o (so_ran (Some o) e) (leaf_run (λ (r : Rest ℕ). IsOpenOrStopped r.outcome) (run_on false m settings (input_at m.width 0 input false) start)
      (map (λ (y : Call × Answer). y.1) log) (map (λ (y : Call × Answer). y.0) log) (rest (Some o) x.session)
      (run_right m settings (input_at m.width 0 input false) refl start) (so_ran (Some o) e)) e)
    where
      go : (o : Outcome) → IsLogOf (run_on false m settings (input_at m.width 0 input false) start) log (rest (Some o) x.session) → IsOpenOrStopped (Some o) →
          x.over ≡ Some o →
          IsLogOf (run_on false m settings long start) log (rest (Some o) x.session)
      go Wants first right e = none_some Wants (has.kept Wants e)
      go Broke first right e = absurd right
      go Ended first right e = absurd right
      go (Stopped cause) first right e =
          subst (λ answers. run
          (run_on false m settings long start) answers ≡ record
          { calls = map (λ (y : Call × Answer). y.0) log; reached = ended (rest (Some (Stopped cause)) x.session) })
          (append-nil (map (λ (y : Call × Answer). y.1) log))
          (is_stopped m settings (input_at m.width 0 input false) long start x.session (map (λ (y : Call × Answer). y.1) log) []
          (map (λ (y : Call × Answer). y.0) log) cause
          kinded (start_fine m entry kinded) longer first)

front_extends : (width : ℕ) (xs ys : List ℕ) (c d : Bool) → Extends (input_at width 0 xs c) (input_at width 0 (xs ++ ys) d)
front_extends width xs ys c d p character e = go (nat_lt p 0) e
  where
    go : (b : Bool) → cond b None (slice_get (characters width xs) (p - 0)) ≡ Some character →
        cond b None (slice_get (characters width (xs ++ ys)) (p - 0)) ≡ Some character
    go true e = absurd (no e)
      where
        no : None ≡ Some character → ⊥
        no e = cc
    go false e = characters_of_front width xs ys (p - 0) character e

pub pieces_run_on : {H : Type 0} (step : H → Call → Answer → H → Type 0) (m : Machine ℕ) → 0 < m.width → IsKinded m → PiecesRunOn step m
pieces_run_on step m some kinded settings entry input piece log x y outcome host last below open_yet has takes = go x.over refl
  where
    longer : IsLonger (input_at m.width 0 input false) (input_at m.width 0 (input ++ piece) false)
    longer = record {
      not_closed = refl;
      extends = front_extends m.width input piece false false;
      base = refl;
      limit = limit m.width 0 (input ++ piece) false some (omega (arith, below));
    }

    closed : y.is_closed ≡ false
    closed = takes.is_closed ∙ open_yet

    go : (o : Option Outcome) → x.over ≡ o → (more : List (Call × Answer)) × Chain step host more last
        × HasRun m settings entry (input ++ piece) (log ++ more) y
    go None e =
        let r = takes.going e in
        let p = r.played input (has.window e) in
        let ran =
        goes_further m some kinded settings entry input log x open_yet has
        (input_at m.width 0 (input ++ piece) false) longer e p.log outcome y.session p.calls in (
          p.log,
          p.chain,
          record {
            window = λ none. r.window none input (has.window e);
            ran = told_at m settings (fresh (m.entry entry)) (input ++ piece) false y.is_closed outcome (outcome_so_far y.over)
                (log ++ p.log) y.session y.session
                closed (ap outcome_so_far r.over ∙ so_far outcome r.unbroken) refl ran;
            kept = λ o f. over_kept outcome o (sym r.over ∙ f);
          },
        )
    go (Some o) e =
        let r = takes.stopped o e in
        let ran = stays_so m some kinded settings entry input log x open_yet has (input_at m.width 0 (input ++ piece) false) longer o e in (
          [],
          sym r.host_same,
          record {
            window = λ none. none_some o (sym none ∙ r.over_same ∙ e);
            ran = told_at m settings (fresh (m.entry entry)) (input ++ piece) false y.is_closed o (outcome_so_far y.over) (log ++ []) x.session y.session
                closed (ap outcome_so_far (r.over_same ∙ e)) r.session_same ran;
            kept = λ p f. has.kept p (sym r.over_same ∙ f);
          },
        )

pub ends_run_out : {H : Type 0} (step : H → Call → Answer → H → Type 0) (m : Machine ℕ) → 0 < m.width → IsKinded m → EndsRunOut step m
ends_run_out step m some kinded settings entry input log x y outcome host last below open_yet has ends = go x.over refl
  where
    longer : IsLonger (input_at m.width 0 input false) (input_at m.width 0 input true)
    longer = record { not_closed = refl; extends = λ p character e. e; base = refl; limit = limit m.width 0 input true some (omega (arith, below)) }

    go : (o : Option Outcome) → x.over ≡ o → (more : List (Call × Answer)) × Chain step host more last × HasRun m settings entry input (log ++ more) y
    go None e =
        let r = ends.going e in
        let p = r.played input (has.window e) in
        let ran =
        goes_further m some kinded settings entry input log x open_yet has (input_at m.width 0 input true) longer e p.log outcome y.session p.calls in (
          p.log,
          p.chain,
          record {
            window = λ none. none_some outcome (sym none ∙ r.over);
            ran = told_at m settings (fresh (m.entry entry)) input true y.is_closed outcome (outcome_so_far y.over) (log ++ p.log) y.session y.session
                ends.is_closed (ap outcome_so_far r.over) refl ran;
            kept = λ o f. over_kept outcome o (over_some outcome r.unbroken r.ends ∙ sym r.over ∙ f);
          },
        )
    go (Some o) e =
        let r = ends.stopped o e in
        let ran = stays_so m some kinded settings entry input log x open_yet has (input_at m.width 0 input true) longer o e in (
          [],
          sym r.host_same,
          record {
            window = λ none. none_some o (sym none ∙ r.over_same ∙ e);
            ran = told_at m settings (fresh (m.entry entry)) input true y.is_closed o (outcome_so_far y.over) (log ++ []) x.session y.session
                ends.is_closed (ap outcome_so_far (r.over_same ∙ e)) r.session_same ran;
            kept = λ p f. has.kept p (sym r.over_same ∙ f);
          },
        )
