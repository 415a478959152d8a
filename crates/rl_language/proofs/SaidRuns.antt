-- A run over a whole input, where no action has a control statement and each condition is answered Yes or No: its verdict is
-- Final exactly where the automaton accepts the input, with the conditions that were said to hold at each character.
use Rattle.std.proofs.Common.{◌≡◌, ◌≢◌, ℕ, zero, suc, ◌+◌, ◌^◌, ◌<◌, ◌≤◌, Bool, true, false, cond, true≢false, List, [], ◌∷◌, ◌++◌, refl, sym, ◌∙◌, ap, subst, Some, None, nat_lt, length, arith}
use Rattle.std.proofs.lemmas.Bool.Decides.{nat_tests}
use Rattle.rl_types.specs.Alphabet.{characters, has_rest}
use Rattle.rl_types.specs.declared.numbers.Key.{Key}
use Rattle.rl_automata.specs.declared.moves.Move.{Move}
use Rattle.rl_automata.specs.Auto.{Auto, on_part}
use Rattle.rl_run.specs.declared.calls.Answer.{Answer}
use Rattle.rl_run.specs.declared.calls.Call.{Call}
use Rattle.rl_run.specs.declared.calls.CallKind.TheVariants.{Eof}
use Rattle.rl_run.specs.declared.calls.Outcome.TheVariants.{Wants, Ended, Stopped}
use Rattle.rl_run.specs.declared.calls.Stop.{Stop as StopCause}
use Rattle.rl_run.specs.declared.calls.Stop.TheVariants.{ErrorState, PastEnd, HalfKey}
use Rattle.rl_run.specs.declared.calls.Verdict.TheVariants.{Final, Partial, Error}
use Rattle.rl_run.specs.declared.sessions.Flow.TheVariants.{Goes, Jumps, Breaks, Stops}
use Rattle.rl_run.specs.declared.sessions.Settings.{Settings}
use Rattle.rl_run.specs.Chain.{run_on}
use Rattle.rl_run.specs.Fine.{weight, tail_weight}
use Rattle.rl_run.specs.Hosted.{hosted}
use Rattle.rl_run.specs.Machine.{Machine, Session, fresh}
use Rattle.rl_run.specs.Picks.{Came}
use Rattle.rl_run.specs.Play.{Play, done}
use Rattle.rl_run.specs.Turn.{turn}
use Rattle.rl_run.specs.Run.{Input, Rest, rest, end_of, end_spot, after, over, last_list, at_kept, ending, at_end, at_letter, turns}
use Rattle.rl_run.specs.Verdict.{verdict_of}
use Rattle.rl_model.specs.Parts.{letter_of}
use Rattle.rl_language.specs.Replays.{truths_said}
use Rattle.rl_language.specs.Verdicts.{letters_from, letters_of, whole, IsTold}
use Rattle.rl_language.proofs.Accepting.{accepts}
use Rattle.rl_language.proofs.QuietRuns.{Sees, sees_all, partial_final, error_final, fewer_characters}
use Rattle.rl_language.proofs.QuietTurns.{Shows, standing}
use Rattle.rl_language.proofs.SaidTurns.{EndsSaid, said_weaken, said_bind, said_hosted, Elsewhere, AreCalm, after_silent, Turned, stuck, went, turn_turns}

-- letters with the same conditions at each position from one on
same_from : (key_of : ℕ → Key) (f g : ℕ → ℕ) (all : List ℕ) (p : ℕ) → ((at : ℕ) → p ≤ at → f at ≡ g at) → letters_from key_of f p all ≡ letters_from key_of g p all
same_from key_of f g [] p same = refl
same_from key_of f g (character ∷ all) p same =
    λ i. record { key = (key_of character).0; truths = same p (itself p) i } ∷ same_from key_of f g all (p + 1) (λ at le. same at (omega arith)) i
  where
    itself : (p : ℕ) → p ≤ p
    itself p = omega arith

module _ {C S : Type 0} (A : Auto C) (m : Machine S) (place : C → S) (shows : Shows A m place) (settings : Settings) (Fits : Call → Answer → Type 0) (calm : AreCalm m settings Fits) where
  -- nothing was said before the position, and the verdict tells whether the rest leads from c to a final configuration, with
  -- what was said
  pub record Tells (half : Bool) (p : ℕ) (more : List ℕ) (c : C) (said : ℕ → ℕ → ℕ) (r : Rest S) : Type 0 where
    pub before : (at n : ℕ) → at < p → said at n ≡ n
    pub told : IsTold (verdict_of m r) half (accepts A (letters_from m.key_of (λ at. said at 0) p more) c ≡ true)

  after_stops : (Q : (ℕ → ℕ → ℕ) → Rest S → Type 0) (x : Came S) (k : Session S → Play (Rest S)) (cause : StopCause) → x.flow ≡ Stops cause → Q (λ at n. n) (rest (Some (Stopped cause)) x.session) → EndsSaid Fits Q (after false x k)
  unfolding after
  after_stops Q x k cause e q =
      (subst (λ flow. flow ≡ Stops cause → EndsSaid Fits Q (elim flow as (λ _. Play (Rest S)) [
        | Goes ↦ k x.session
        | Jumps ↦ k x.session
        | Breaks ↦ k x.session
        | Stops cause ↦ done (rest (Some (Stopped cause)) x.session)
      ])) (sym e) (λ f. q)) e

  -- at the end of the input the verdict is whether the state is final
  ended_told : (c : C) (p furthest backs : ℕ) → IsTold (verdict_of m (rest (Some Ended) (standing (place c) p furthest backs))) false (A.final c ≡ true)
  ended_told c p furthest backs = subst (λ b. IsTold (cond b Final Partial) false (A.final c ≡ true)) (sym (shows.final c)) (by (A.final c))
    where
      by : (b : Bool) → IsTold (cond b Final Partial) false (b ≡ true)
      by true = record { word = ((λ e. (refl, refl)), (λ e. refl)); rest = λ e. absurd (true≢false (sym e)) }
      by false = record { word = ((λ e. partial_final e), (λ e. absurd (true≢false (sym e.1)))); rest = λ e. absurd (true≢false (sym e)) }

  -- a run that stopped tells of an input that is no word
  stopped_told : (half : Bool) (Word : Type 0) → ((half ≡ false) × Word → ⊥) → IsTold Error half Word
  stopped_told half Word none = record { word = ((λ e. error_final e), (λ h. absurd (none h))); rest = λ e. refl }

  module _ (input : Input) (is_closed : input.is_closed ≡ true) where
    whole_tells : (c : C) (p furthest backs : ℕ) (k : Session S → Play (Rest S)) → p ≡ end_of input
        → EndsSaid Fits (Tells false p [] c) (ending false m settings (end_of input) (standing (place c) p furthest backs) k)
    unfolding ending at_kept last_list
    whole_tells c p furthest backs k here =
        let s = standing (place c) p furthest backs in
        subst (λ b. EndsSaid Fits (Tells false p [] c) (cond b (done (rest (Some (Stopped PastEnd)) s)) (at_kept false m settings (end_of input) s k None)))
        (sym (not_past p here))
        (after_silent m settings Fits calm (end_spot settings s (end_of input) true) (Tells false p [] c) Eof refl (m.eof (place c)) s (λ x. done (over x))
        (record { before = λ at n lt. refl; told = ended_told c p furthest backs }))
      where
        not_past : (p : ℕ) → p ≡ end_of input → nat_lt (end_of input) p ≡ false
        not_past p here = grind (arith, nat_tests)

    end_tells : (c : C) (p furthest backs : ℕ) (k : Session S → Play (Rest S)) → p ≡ end_of input
        → EndsSaid Fits (Tells input.has_rest p [] c) (at_end false m settings input k (standing (place c) p furthest backs))
    unfolding at_end
    end_tells c p furthest backs k here = by input.has_rest
      where
        by : (half : Bool) → EndsSaid Fits (Tells half p [] c) (cond half (done (rest (Some (Stopped HalfKey)) (standing (place c) p furthest backs)))
            (ending false m settings (end_of input) (standing (place c) p furthest backs) k))
        by true = record { before = λ at n lt. refl; told = stopped_told true (A.final c ≡ true) (λ h. true≢false h.0) }
        by false = whole_tells c p furthest backs k here

    -- a step, and then what the rest tells
    went_tells : (c : C) (character : ℕ) (more : List ℕ) (p : ℕ) (said later : ℕ → ℕ → ℕ) (r : Rest S) → Elsewhere p said → (n : Move C) → A.step c (letter_of (m.key_of character) (said p 0)) ≡ Some n
        → Tells input.has_rest (p + 1) more n.to later r → Tells input.has_rest p (character ∷ more) c (λ at n. later at (said at n)) r
    went_tells c character more p said later r other n e t = record {
      before = λ at i lt. t.before at (said at i) (omega arith) ∙ other at i (not_here at lt);
      told = record {
        word = ((λ f. ((t.told.word.0 f).0, same ∙ (t.told.word.0 f).1)), (λ a. t.told.word.1 (a.0, sym same ∙ a.1)));
        rest = t.told.rest;
      };
    }
      where
        not_here : (at : ℕ) → at < p → at ≢ p
        not_here at lt q = let same : at ≡ p = q in absurd (omega arith)

        behind : (at : ℕ) → p + 1 ≤ at → at ≢ p
        behind at le q = let same : at ≡ p = q in absurd (omega arith)

        here : p < p + 1
        here = omega arith

        same : accepts A (letters_from m.key_of (λ at. later at (said at 0)) p (character ∷ more)) c ≡ accepts A (letters_from m.key_of (λ at. later at 0) (p + 1) more) n.to
        same =
            (λ i. accepts A (record { key = (m.key_of character).0; truths = t.before p (said p 0) here i } ∷ same_from m.key_of (λ at. later at (said at 0)) (λ at. later at 0) more (p + 1) (λ at le. ap (later at) (other at 0 (behind at le))) i) c)
            ∙ ap (on_part false (λ (d : Move C). accepts A (letters_from m.key_of (λ at. later at 0) (p + 1) more) d.to)) e

    stuck_tells : (c : C) (character : ℕ) (more : List ℕ) (p : ℕ) (said : ℕ → ℕ → ℕ) (u : Session S) → Elsewhere p said → A.step c (letter_of (m.key_of character) (said p 0)) ≡ None
        → Tells input.has_rest p (character ∷ more) c said (rest (Some (Stopped ErrorState)) u)
    stuck_tells c character more p said u other e = record {
      before = λ at n lt. other at n (not_here at lt);
      told = stopped_told input.has_rest (accepts A (letters_from m.key_of (λ at. said at 0) p (character ∷ more)) c ≡ true)
          (λ h. true≢false (sym h.1 ∙ ap (on_part false (λ (d : Move C). accepts A (letters_from m.key_of (λ at. said at 0) (p + 1) more) d.to)) e));
    }
      where
        not_here : (at : ℕ) → at < p → at ≢ p
        not_here at lt q = let same : at ≡ p = q in absurd (omega arith)

    pub turns_tell : (more : List ℕ) (n : ℕ) (c : C) (p furthest backs : ℕ) → length more < n → Sees input p more
        → EndsSaid Fits (Tells input.has_rest p more c) (turns false m settings input n (standing (place c) p furthest backs))
    unfolding turns at_letter after
    turns_tell more zero c p furthest backs few sees = absurd (omega arith)
    turns_tell [] (suc n) c p furthest backs few sees =
        let s = standing (place c) p furthest backs in
        let k : Session S → Play (Rest S) = λ t. turns false m settings input n t in
        subst (λ o. EndsSaid Fits (Tells input.has_rest p [] c) (at_letter false m settings input k s o)) (sym sees.0)
        (subst (λ b. EndsSaid Fits (Tells input.has_rest p [] c) (cond b (at_end false m settings input k s) (done (rest (Some Wants) s)))) (sym is_closed)
        (end_tells c p furthest backs k sees.1))
    turns_tell (character ∷ more) (suc n) c p furthest backs few sees =
        let s = standing (place c) p furthest backs in
        let k : Session S → Play (Rest S) = λ t. turns false m settings input n t in
        subst (λ o. EndsSaid Fits (Tells input.has_rest p (character ∷ more) c) (at_letter false m settings input k s o)) (sym sees.0)
        (said_bind Fits (Turned A m place shows settings Fits calm c (m.key_of character) p) (Tells input.has_rest p (character ∷ more) c)
        (turn m settings s character) (λ x. after false x k)
        (turn_turns A m place shows settings Fits calm c character p furthest backs)
        (λ said x t. by said x k (λ d further back. turns_tell more n d (p + 1) further back (omega arith) sees.1) t))
      where
        by : (said : ℕ → ℕ → ℕ) (x : Came S) (k : Session S → Play (Rest S))
            → ((d : C) (further back : ℕ) → EndsSaid Fits (Tells input.has_rest (p + 1) more d) (k (standing (place d) (p + 1) further back)))
            → Turned A m place shows settings Fits calm c (m.key_of character) p said x
            → EndsSaid Fits (λ later r. Tells input.has_rest p (character ∷ more) c (λ at n. later at (said at n)) r) (after false x k)
        by said x k on (stuck other e f) =
            after_stops (λ later r. Tells input.has_rest p (character ∷ more) c (λ at n. later at (said at n)) r) x k ErrorState f (stuck_tells c character more p said x.session other e)
        by said x k on (went other d further back e same) =
            subst (λ y. EndsSaid Fits (λ later r. Tells input.has_rest p (character ∷ more) c (λ at n. later at (said at n)) r) (after false y k)) (sym same)
            (said_weaken Fits (Tells input.has_rest (p + 1) more d.to) (λ later r. Tells input.has_rest p (character ∷ more) c (λ at n. later at (said at n)) r) (k (standing (place d.to) (p + 1) further back))
            (λ later r t. went_tells c character more p said later r other d e t) (on d.to further back))

  -- ---- a whole input

  -- turns are enough
  enough : (all bytes : List ℕ) (q : S) → length all ≤ length bytes → length bytes < 2 ^ 63 → length all < suc (weight (fresh q))
  unfolding weight tail_weight
  enough all bytes q few h = omega arith

  runs_tell : (bytes : List ℕ) → length bytes < 2 ^ 63 → EndsSaid Fits (Tells (has_rest m.width bytes) 0 (characters m.width bytes) A.start) (run_on false m settings (whole m.width bytes) (fresh (place A.start)))
  unfolding run_on
  runs_tell bytes h =
      let all = characters m.width bytes in
      turns_tell (whole m.width bytes) refl all (suc (weight (fresh (place A.start)))) A.start 0 0 0
      (enough all bytes (place A.start) (fewer_characters m.width bytes) h) (sees_all all (has_rest m.width bytes))

  pub hosted_said : (host : List Call → Answer) → ((past : List Call) (c : Call) → Fits c (host (past ++ c ∷ []))) → (bytes : List ℕ) (start : S) → start ≡ place A.start → length bytes < 2 ^ 63
      → IsTold (verdict_of m (hosted host [] (run_on false m settings (whole m.width bytes) (fresh start))).1) (has_rest m.width bytes)
      (accepts A (letters_of m.width m.key_of (truths_said host (hosted host [] (run_on false m settings (whole m.width bytes) (fresh start))).0) bytes) A.start ≡ true)
  hosted_said host fits bytes start e h =
      let p = run_on false m settings (whole m.width bytes) (fresh start) in
      let Told : (ℕ → ℕ → ℕ) → Rest S → Type 0 = Tells (has_rest m.width bytes) 0 (characters m.width bytes) A.start in
      let told = said_hosted Fits host fits Told p []
      (subst (λ q. EndsSaid Fits Told (run_on false m settings (whole m.width bytes) (fresh q))) (sym e) (runs_tell bytes h)) in
      subst (λ calls. IsTold (verdict_of m (hosted host [] p).1) (has_rest m.width bytes) (accepts A (letters_of m.width m.key_of (truths_said host calls) bytes) A.start ≡ true)) (sym told.1) told.2.told
