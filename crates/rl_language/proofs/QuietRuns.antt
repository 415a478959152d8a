-- A run over a whole input, where no action has a control statement: its verdict is Final exactly where the automaton
-- accepts the input.
use Rattle.std.proofs.Common.{◌≡◌, ℕ, zero, suc, ◌+◌, ◌-◌, ◌^◌, ◌<◌, ◌≤◌, Bool, true, false, cond, true≢false, List, [], ◌∷◌, ◌++◌, ◌⊎◌, inl, inr, refl, sym, ◌∙◌, ap, subst, Option, Some, None, nat_lt, length, slice_get, arith}
use Rattle.std.proofs.lemmas.Bool.Decides.{nat_tests}
use Rattle.std.proofs.Math.Nat.{div-le_self}
use Rattle.rl_types.specs.Alphabet.{characters, has_rest}
use Rattle.rl_types.proofs.Characters.{length-characters}
use Rattle.rl_types.specs.declared.numbers.Letter.{Letter}
use Rattle.rl_automata.specs.declared.moves.Move.{Move}
use Rattle.rl_automata.specs.Auto.{Auto, on_part}
use Rattle.rl_run.specs.declared.calls.Answer.{Answer}
use Rattle.rl_run.specs.declared.calls.Call.{Call}
use Rattle.rl_run.specs.declared.calls.CallKind.TheVariants.{Eof}
use Rattle.rl_run.specs.Hosted.{hosted}
use Rattle.rl_run.specs.declared.calls.Outcome.{Outcome}
use Rattle.rl_run.specs.declared.calls.Outcome.TheVariants.{Wants, Broke, Ended, Stopped}
use Rattle.rl_run.specs.declared.calls.Stop.{Stop as StopCause}
use Rattle.rl_run.specs.declared.calls.Stop.TheVariants.{ErrorState, PastEnd, HalfKey}
use Rattle.rl_run.specs.declared.calls.Verdict.TheVariants.{Final, Partial, Error}
use Rattle.rl_run.specs.declared.sessions.Flow.TheVariants.{Goes, Jumps, Breaks, Stops}
use Rattle.rl_run.specs.declared.sessions.Settings.{Settings}
use Rattle.rl_run.specs.Machine.{Machine, Session, fresh}
use Rattle.rl_run.specs.Picks.{Came}
use Rattle.rl_run.specs.Play.{Play, done, ask, ended, run}
use Rattle.rl_run.specs.Turn.{turn}
use Rattle.rl_run.specs.Run.{Input, Rest, rest, letter, end_of, end_spot, after, over, last_list, at_kept, ending, at_end, at_letter, turns}
use Rattle.rl_run.specs.Fine.{weight, tail_weight}
use Rattle.rl_run.specs.Chain.{run_on}
use Rattle.rl_run.specs.Verdict.{verdict_of}
use Rattle.rl_language.specs.Verdicts.{IsByHost, IsStoppedBy, IsStoppedByHost, IsAnsweredBy, AreAnsweredBy, letters_from, letters_of, whole, IsTold}
use Rattle.rl_language.proofs.Accepting.{accepts}
use Rattle.rl_language.proofs.Conditions.{EndsBy, ends_bind, ends_run, ends_hosted}
use Rattle.rl_language.proofs.Unasked.{eof_ask}
use Rattle.rl_language.proofs.QuietTurns.{AreQuiet, answered_unmoved, IsHeld, after_calls, Shows, standing, Turned, held, stuck, went, turn_turns}

-- the rest of the input stands at a position
abbrev pub Sees : Input → ℕ → List ℕ → Type 0
Sees input p [] = (letter input p ≡ None) × (p ≡ end_of input)
Sees input p (character ∷ more) = (letter input p ≡ Some character) × Sees input (p + 1) more

pub partial_final : {P : Type 0} → Partial ≡ Final → P
partial_final e = cc

pub error_final : {P : Type 0} → Error ≡ Final → P
error_final e = cc

module _ {C S : Type 0} (A : Auto C) (m : Machine S) (place : C → S) (shows : Shows A m place) (settings : Settings) (truths : ℕ → ℕ) (low : (p : ℕ) → truths p < 2 ^ 8) (Fits : Call → Answer → Type 0) (Sort : StopCause → Type 0) (answers : AreQuiet m settings truths Fits Sort) where
  -- the run stopped for a cause of the sort, or its verdict tells whether the word leads from c to a final configuration
  abbrev pub Tells : Bool → List Letter → C → Rest S → Type 0
  Tells half w c r = IsStoppedBy Sort r.outcome ⊎ IsTold (verdict_of m r) half (accepts A w c ≡ true)

  after_stops : (Q : Rest S → Type 0) (x : Came S) (k : Session S → Play (Rest S)) (cause : StopCause) → x.flow ≡ Stops cause → Q (rest (Some (Stopped cause)) x.session) → EndsBy Fits Q (after false x k)
  unfolding after
  after_stops Q x k cause e q =
      (subst (λ flow. flow ≡ Stops cause → EndsBy Fits Q (elim flow as (λ _. Play (Rest S)) [
        | Goes ↦ k x.session
        | Jumps ↦ k x.session
        | Breaks ↦ k x.session
        | Stops cause ↦ done (rest (Some (Stopped cause)) x.session)
      ])) (sym e) (λ f. q)) e

  over_held : (x : Came S) → IsHeld Sort x → IsStoppedBy Sort (over x).outcome
  over_held x (cause, e, h) =
      subst (λ flow. IsStoppedBy Sort (elim flow as (λ _. Rest S) [ Stops cause ↦ rest (Some (Stopped cause)) x.session | _ ↦ rest (Some Ended) x.session ]).outcome) (sym e) h

  -- at the end of the input the verdict is whether the state is final
  ended_tells : (c : C) (p furthest backs : ℕ) → Tells false [] c (rest (Some Ended) (standing (place c) p furthest backs))
  ended_tells c p furthest backs = inr (subst (λ b. IsTold (cond b Final Partial) false (A.final c ≡ true)) (sym (shows.final c)) (by (A.final c)))
    where
      by : (b : Bool) → IsTold (cond b Final Partial) false (b ≡ true)
      by true = record { word = ((λ e. (refl, refl)), (λ e. refl)); rest = λ e. absurd (true≢false (sym e)) }
      by false = record { word = ((λ e. partial_final e), (λ e. absurd (true≢false (sym e.1)))); rest = λ e. absurd (true≢false (sym e)) }

  -- a run that stopped tells of an input that is not the word's
  stopped_tells : (half : Bool) (w : List Letter) (c : C) (cause : StopCause) (u : Session S) → ((half ≡ false) × (accepts A w c ≡ true) → ⊥)
      → Tells half w c (rest (Some (Stopped cause)) u)
  stopped_tells half w c cause u none = inr (record { word = ((λ e. error_final e), (λ h. absurd (none h))); rest = λ e. refl })

  module _ (input : Input) (is_closed : input.is_closed ≡ true) where
    whole_tells : (c : C) (p furthest backs : ℕ) (k : Session S → Play (Rest S)) → p ≡ end_of input
        → EndsBy Fits (Tells false [] c) (ending false m settings (end_of input) (standing (place c) p furthest backs) k)
    unfolding ending at_kept last_list
    whole_tells c p furthest backs k here =
        let s = standing (place c) p furthest backs in
        subst (λ b. EndsBy Fits (Tells false [] c) (cond b (done (rest (Some (Stopped PastEnd)) s)) (at_kept false m settings (end_of input) s k None)))
        (sym (not_past p here))
        (after_calls m settings truths Fits Sort answers (end_spot settings s (end_of input) true) (Tells false [] c) Eof eof_ask (m.eof (place c)) s (λ x. done (over x))
        (ended_tells c p furthest backs)
        (λ x h. inl (over_held x h)))
      where
        not_past : (p : ℕ) → p ≡ end_of input → nat_lt (end_of input) p ≡ false
        not_past p here = grind (arith, nat_tests)

    end_tells : (c : C) (p furthest backs : ℕ) (k : Session S → Play (Rest S)) → p ≡ end_of input
        → EndsBy Fits (Tells input.has_rest [] c) (at_end false m settings input k (standing (place c) p furthest backs))
    unfolding at_end
    end_tells c p furthest backs k here = by input.has_rest
      where
        by : (half : Bool) → EndsBy Fits (Tells half [] c) (cond half (done (rest (Some (Stopped HalfKey)) (standing (place c) p furthest backs)))
            (ending false m settings (end_of input) (standing (place c) p furthest backs) k))
        by true = stopped_tells true [] c HalfKey (standing (place c) p furthest backs) (λ h. true≢false h.0)
        by false = whole_tells c p furthest backs k here

    stuck_tells : (c : C) (l : Letter) (w : List Letter) (u : Session S) → A.step c l ≡ None →
        Tells input.has_rest (l ∷ w) c (rest (Some (Stopped ErrorState)) u)
    stuck_tells c l w u e =
        stopped_tells input.has_rest (l ∷ w) c ErrorState u (λ h. true≢false (sym (sym (ap (on_part false (λ (n : Move C). accepts A w n.to)) e) ∙ h.1)))

    went_tells : (c : C) (l : Letter) (w : List Letter) (n : Move C) → A.step c l ≡ Some n → (r : Rest S) →
        Tells input.has_rest w n.to r → Tells input.has_rest (l ∷ w) c r
    went_tells c l w n e r (inl h) = inl h
    went_tells c l w n e r (inr h) =
        let same : accepts A (l ∷ w) c ≡ accepts A w n.to = ap (on_part false (λ (n : Move C). accepts A w n.to)) e in
        inr (record { word = ((λ f. ((h.word.0 f).0, same ∙ (h.word.0 f).1)), (λ a. h.word.1 (a.0, sym same ∙ a.1))); rest = h.rest })

    ends_weaken : {B : Type 0} (P Q : B → Type 0) (p : Play B) → ((b : B) → P b → Q b) → EndsBy Fits P p → EndsBy Fits Q p
    ends_weaken P Q (done b) f h = f b h
    ends_weaken P Q (ask d g) f h = λ x e. ends_weaken P Q (g x) f (h x e)

    pub turns_tell : (more : List ℕ) (n : ℕ) (c : C) (p furthest backs : ℕ) → length more < n → Sees input p more
        → EndsBy Fits (Tells input.has_rest (letters_from m.key_of truths p more) c) (turns false m settings input n (standing (place c) p furthest backs))
    unfolding turns at_letter after
    turns_tell more zero c p furthest backs few sees = absurd (omega arith)
    turns_tell [] (suc n) c p furthest backs few sees =
        let s = standing (place c) p furthest backs in
        let k : Session S → Play (Rest S) = λ t. turns false m settings input n t in
        subst (λ o. EndsBy Fits (Tells input.has_rest [] c) (at_letter false m settings input k s o)) (sym sees.0)
        (subst (λ b. EndsBy Fits (Tells input.has_rest [] c) (cond b (at_end false m settings input k s) (done (rest (Some Wants) s)))) (sym is_closed)
        (end_tells c p furthest backs k sees.1))
    turns_tell (character ∷ more) (suc n) c p furthest backs few sees =
        let s = standing (place c) p furthest backs in
        let l : Letter = record { key = (m.key_of character).0; truths = truths p } in
        let w = letters_from m.key_of truths (p + 1) more in
        let k : Session S → Play (Rest S) = λ t. turns false m settings input n t in
        subst (λ o. EndsBy Fits (Tells input.has_rest (l ∷ w) c) (at_letter false m settings input k s o)) (sym sees.0)
        (ends_bind Fits (Turned A m place shows settings truths low Fits Sort answers c l p) (Tells input.has_rest (l ∷ w) c)
        (turn m settings s character) (λ x. after false x k)
        (turn_turns A m place shows settings truths low Fits Sort answers c character p furthest backs)
        (λ x t. by x k (λ d further back. turns_tell more n d (p + 1) further back (omega arith) sees.1) t))
      where
        by : (x : Came S) (k : Session S → Play (Rest S))
            → ((d : C) (further back : ℕ) → EndsBy Fits (Tells input.has_rest (letters_from m.key_of truths (p + 1) more) d)
            (k (standing (place d) (p + 1) further back)))
            → Turned A m place shows settings truths low Fits Sort answers c (record { key = (m.key_of character).0; truths = truths p }) p x
            → EndsBy Fits (Tells input.has_rest (letters_from m.key_of truths p (character ∷ more)) c) (after false x k)
        by x k on (held h) = after_stops (Tells input.has_rest (letters_from m.key_of truths p (character ∷ more)) c) x k h.0 h.1 (inl h.2)
        by x k on (stuck e f) =
            after_stops (Tells input.has_rest (letters_from m.key_of truths p (character ∷ more)) c) x k ErrorState f
            (stuck_tells c (record { key = (m.key_of character).0; truths = truths p }) (letters_from m.key_of truths (p + 1) more) x.session e)
        by x k on (went d further back e same) =
            subst (λ y. EndsBy Fits (Tells input.has_rest (letters_from m.key_of truths p (character ∷ more)) c) (after false y k)) (sym same)
            (ends_weaken (Tells input.has_rest (letters_from m.key_of truths (p + 1) more) d.to)
            (Tells input.has_rest (letters_from m.key_of truths p (character ∷ more)) c) (k (standing (place d.to) (p + 1) further back))
            (went_tells c (record { key = (m.key_of character).0; truths = truths p }) (letters_from m.key_of truths (p + 1) more) d e) (on d.to further back))

-- ---- a whole input

-- what is seen of an input from a position on
module _ (all : List ℕ) (half : Bool) where
  abbrev input : Input
  input = record { base = 0; characters = all; is_closed = true; has_rest = half }

  not_before : (p : ℕ) → nat_lt p 0 ≡ false
  not_before p = grind (arith, nat_tests)

  pub seen_at : (p : ℕ) → letter input p ≡ slice_get all p
  seen_at p = ap (λ b. cond b None (slice_get all (p - 0))) (not_before p) ∙ ap (slice_get all) (less p)
    where
      less : (p : ℕ) → p - 0 ≡ p
      less p = omega arith

  -- the rest of the characters stands where they go on with it
  sees_rest : (rest : List ℕ) (p : ℕ) → ((i : ℕ) → slice_get all (p + i) ≡ slice_get rest i) → p + length rest ≡ length all → Sees input p rest
  sees_rest [] p same size = (seen_at p ∙ ap (slice_get all) (at_zero p) ∙ same 0, stands p size)
    where
      at_zero : (p : ℕ) → p ≡ p + 0
      at_zero p = omega arith

      stands : (p : ℕ) → p + 0 ≡ length all → p ≡ 0 + length all
      stands p e = omega arith
  sees_rest (character ∷ rest) p same size = (
    seen_at p ∙ ap (slice_get all) (at_zero p) ∙ same 0,
    sees_rest rest (p + 1) (λ i. ap (slice_get all) (shifted p i) ∙ same (suc i)) (size_of p size),
  )
    where
      at_zero : (p : ℕ) → p ≡ p + 0
      at_zero p = omega arith

      shifted : (p i : ℕ) → (p + 1) + i ≡ p + suc i
      shifted p i = omega arith

      size_of : (p : ℕ) → p + length (character ∷ rest) ≡ length all → (p + 1) + length rest ≡ length all
      size_of p e = omega arith

  pub sees_all : Sees input 0 all
  sees_all = sees_rest all 0 (λ i. ap (slice_get all) (from_zero i)) (whole_size all)
    where
      from_zero : (i : ℕ) → 0 + i ≡ i
      from_zero i = omega arith

      whole_size : (xs : List ℕ) → 0 + length xs ≡ length xs
      whole_size xs = omega arith

-- there are no more characters than bytes
pub fewer_characters : (width : ℕ) (bytes : List ℕ) → length (characters width bytes) ≤ length bytes
fewer_characters width bytes = subst (λ n. n ≤ length bytes) (sym (length-characters width bytes)) (div-le_self (length bytes) width)

module _ {C S : Type 0} (A : Auto C) (m : Machine S) (place : C → S) (shows : Shows A m place) (settings : Settings) (truths : ℕ → ℕ) (low : (p : ℕ) → truths p < 2 ^ 8) (Fits : Call → Answer → Type 0) (Sort : StopCause → Type 0) (answers : AreQuiet m settings truths Fits Sort) where
  -- turns are enough
  enough : (all bytes : List ℕ) (q : S) → length all ≤ length bytes → length bytes < 2 ^ 63 → length all < suc (weight (fresh q))
  unfolding weight tail_weight
  enough all bytes q few h = omega arith

  pub runs_tell : (bytes : List ℕ) → length bytes < 2 ^ 63 →
      EndsBy Fits (Tells A m place shows settings truths low Fits Sort answers (has_rest m.width bytes) (letters_of m.width m.key_of truths bytes) A.start)
      (run_on false m settings (whole m.width bytes) (fresh (place A.start)))
  unfolding run_on
  runs_tell bytes h =
      let all = characters m.width bytes in
      turns_tell A m place shows settings truths low Fits Sort answers (whole m.width bytes) refl all (suc (weight (fresh (place A.start)))) A.start 0 0 0
      (enough all bytes (place A.start) (fewer_characters m.width bytes) h) (sees_all all (has_rest m.width bytes))

-- ---- a run that ended, and was not stopped by an answer

module _ {C S : Type 0} (A : Auto C) (m : Machine S) (place : C → S) (shows : Shows A m place) (quiet : (action n : ℕ) → m.statement action n ≡ None) (settings : Settings) (truths : ℕ → ℕ) (low : (p : ℕ) → truths p < 2 ^ 8) where
  any_answers : AreQuiet m settings truths (IsAnsweredBy truths) IsByHost
  any_answers = record { asks = λ c x f. f; lists = λ spot kind ne action s x f. answered_unmoved m quiet settings spot kind action s x }

  pub run_tells : (bytes : List ℕ) (start : S) → start ≡ place A.start → (answers : List Answer) (r : Rest S) → length bytes < 2 ^ 63
      → AreAnsweredBy truths (run (run_on false m settings (whole m.width bytes) (fresh start)) answers).calls answers
      → (run (run_on false m settings (whole m.width bytes) (fresh start)) answers).reached ≡ ended r → ¬ IsStoppedByHost r.outcome
      → IsTold (verdict_of m r) (has_rest m.width bytes) (accepts A (letters_of m.width m.key_of truths bytes) A.start ≡ true)
  run_tells bytes start e answers r h by reached not_held =
      let w = letters_of m.width m.key_of truths bytes in
      let told : Tells A m place shows settings truths low (IsAnsweredBy truths) IsByHost any_answers (has_rest m.width bytes) w A.start r =
      ends_run truths (Tells A m place shows settings truths low (IsAnsweredBy truths) IsByHost any_answers (has_rest m.width bytes) w A.start) (run_on false m settings (whole m.width bytes) (fresh start)) answers r
      (subst (λ q. EndsBy (IsAnsweredBy truths) (Tells A m place shows settings truths low (IsAnsweredBy truths) IsByHost any_answers (has_rest m.width bytes) w A.start) (run_on false m settings (whole m.width bytes) (fresh q))) (sym e)
      (runs_tell A m place shows settings truths low (IsAnsweredBy truths) IsByHost any_answers bytes h)) by reached in
      elim told [ inl x ↦ absurd (not_held x) | inr x ↦ x ]

-- ---- a run against a host of which no answer stops it

pub never_stopped : (o : Option Outcome) → IsStoppedBy (λ cause. ⊥) o → ⊥
never_stopped None h = h
never_stopped (Some Wants) h = h
never_stopped (Some Broke) h = h
never_stopped (Some Ended) h = h
never_stopped (Some (Stopped cause)) h = h

module _ {C S : Type 0} (A : Auto C) (m : Machine S) (place : C → S) (shows : Shows A m place) (settings : Settings) (truths : ℕ → ℕ) (low : (p : ℕ) → truths p < 2 ^ 8) (Fits : Call → Answer → Type 0) (answers : AreQuiet m settings truths Fits (λ cause. ⊥)) where
  pub hosted_tells : (host : List Call → Answer) → ((past : List Call) (c : Call) → Fits c (host (past ++ c ∷ []))) → (bytes : List ℕ) (start : S) → start ≡ place A.start → length bytes < 2 ^ 63
      → IsTold (verdict_of m (hosted host [] (run_on false m settings (whole m.width bytes) (fresh start))).1) (has_rest m.width bytes)
      (accepts A (letters_of m.width m.key_of truths bytes) A.start ≡ true)
  hosted_tells host fits bytes start e h =
      let w = letters_of m.width m.key_of truths bytes in
      let p = run_on false m settings (whole m.width bytes) (fresh start) in
      let Told : Rest S → Type 0 = Tells A m place shows settings truths low Fits (λ cause. ⊥) answers (has_rest m.width bytes) w A.start in
      let told : Told (hosted host [] p).1 = ends_hosted Fits Told host fits p []
      (subst (λ q. EndsBy Fits Told (run_on false m settings (whole m.width bytes) (fresh q))) (sym e) (runs_tell A m place shows settings truths low Fits (λ cause. ⊥) answers bytes h)) in
      elim told [ inl x ↦ absurd (never_stopped (hosted host [] p).1.outcome x) | inr x ↦ x ]
