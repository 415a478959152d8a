-- A run against a host that is a function of its calls goes on over more of its input.
use Rattle.std.proofs.Common.{◌≡◌, ℕ, zero, suc, ◌<◌, ◌≤◌, ◌^◌, false, List, [], ◌∷◌, ◌++◌, Option, Some, None, refl, ap, subst, arith}
use Rattle.rl_run.specs.declared.calls.Answer.{Answer}
use Rattle.rl_run.specs.declared.calls.Call.{Call}
use Rattle.rl_run.specs.declared.calls.Outcome.{Outcome}
use Rattle.rl_run.specs.declared.calls.Outcome.TheVariants.{Wants, Ended, Stopped}
use Rattle.rl_run.specs.declared.calls.Stop.{Stop as StopCause}
use Rattle.rl_run.specs.declared.sessions.Flow.{Flow}
use Rattle.rl_run.specs.declared.sessions.Flow.TheVariants.{Goes, Jumps, Breaks, Stops}
use Rattle.rl_run.specs.declared.sessions.Settings.{Settings}
use Rattle.rl_run.specs.Machine.{Machine, Session, keep}
use Rattle.rl_run.specs.Picks.{Came, came}
use Rattle.rl_run.specs.Turn.{turn}
use Rattle.rl_run.specs.Run.{Input, Rest, rest, letter, end_of, after, at_letter, turns}
use Rattle.rl_run.specs.Play.{Play, done, ask, AllEnds, Plays}
use Rattle.rl_run.specs.Chain.{Extends, run_on}
use Rattle.rl_run.specs.Fine.{IsKinded, IsFine, weight}
use Rattle.rl_run.specs.Hosted.{hosted}
use Rattle.rl_run.proofs.Cuts.{goes_on, stays, on_enough}
use Rattle.rl_run.proofs.Ends.{leaves_bind}
use Rattle.rl_run.proofs.Hosted.{hosted_play}

module _ (host : List Call → Answer) where
  -- the host as a closure over its calls so far
  abbrev pub Hosts : List Call → Call → Answer → List Call → Type 0
  Hosts past c x next = (x ≡ host (past ++ c ∷ [])) × (next ≡ past ++ c ∷ [])

  pub plays_hosted : {A : Type 0} (past : List Call) (p : Play A) → Plays Hosts past p (hosted host past p).0 (hosted host past p).1
  plays_hosted past (done a) = (refl, refl)
  plays_hosted past (ask c f) =
      (host (past ++ c ∷ []), past ++ c ∷ [], (refl, refl), plays_hosted (past ++ c ∷ []) (f (host (past ++ c ∷ []))))

  pub plays_of : {A : Type 0} (past last : List Call) (p : Play A) (a : A) → hosted host past p ≡ (last, a) → Plays Hosts past p last a
  plays_of past last p a e =
      let P : List Call × _ → Type 0 = λ r. Plays Hosts past p r.0 r.1 in
      subst P e (plays_hosted past p)

  pub hosted_of : {A : Type 0} (past last : List Call) (p : Play A) (a : A) → Plays Hosts past p last a → hosted host past p ≡ (last, a)
  hosted_of past last p a q = hosted_play Hosts host (λ calls. calls) (λ h c x k s. s) past last p a q

module _ {S : Type 0} (m : Machine S) (settings : Settings) (host : List Call → Answer) (kinded : IsKinded m)
    (short long : Input) (open_yet : short.is_closed ≡ false) (extends : Extends short long) (limit : end_of long < 2 ^ 63) (begins : long.base ≡ 0) where
  low : (s : Session S) → long.base ≤ keep settings s
  low s = rw begins (omega arith)

  -- where it wants more, the run on the longer input goes on from there
  pub wants_on : (s t u : Session S) (calls more : List Call) (o : Outcome) → IsFine m s →
      hosted host [] (run_on false m settings short s) ≡ (calls, rest (Some Wants) t) →
      hosted host calls (run_on false m settings long t) ≡ (more, rest (Some o) u) →
      hosted host [] (run_on false m settings long s) ≡ (more, rest (Some o) u)
  unfolding run_on
  wants_on s t u calls more o fine first second =
      let p = plays_of host [] calls (turns false m settings short (suc (weight s)) s) (rest (Some Wants) t) first in
      let q = plays_of host calls more (turns false m settings long (suc (weight t)) t) (rest (Some o) u) second in
      let w = goes_on (Hosts host) m settings false short long open_yet extends (suc (weight s)) (suc (weight t)) s t [] calls more (Some Wants) (rest (Some o) u) tt p q in
      hosted_of host [] more (turns false m settings long (suc (weight s)) s) (rest (Some o) u)
      (on_enough (Hosts host) m kinded settings false long limit w.0 s u [] more o fine (low s) w.1)

  -- where it stopped, it stops so on the longer input
  pub stops_on : (s t : Session S) (calls : List Call) (cause : StopCause) → IsFine m s →
      hosted host [] (run_on false m settings short s) ≡ (calls, rest (Some (Stopped cause)) t) →
      hosted host [] (run_on false m settings long s) ≡ (calls, rest (Some (Stopped cause)) t)
  unfolding run_on
  stops_on s t calls cause fine first =
      let p = plays_of host [] calls (turns false m settings short (suc (weight s)) s) (rest (Some (Stopped cause)) t) first in
      let w = stays (Hosts host) m settings false short long open_yet extends (suc (weight s)) s t [] calls cause p in
      hosted_of host [] calls (turns false m settings long (suc (weight s)) s) (rest (Some (Stopped cause)) t)
      (on_enough (Hosts host) m kinded settings false long limit w.0 s t [] calls (Stopped cause) fine (low s) w.1)

module _ {S : Type 0} (m : Machine S) (settings : Settings) (input : Input) (open_yet : input.is_closed ≡ false) where
  abbrev pub HasNoEnd : Rest S → Type 0
  HasNoEnd r = r.outcome ≡ Some Ended → ⊥

  no_end : (o : Option Outcome) (s : Session S) → (o ≡ Some Ended → ⊥) → HasNoEnd (rest o s)
  no_end o s h = h

  none_ended : None ≡ Some Ended → ⊥
  none_ended e = cc

  wants_ended : Some Wants ≡ Some Ended → ⊥
  wants_ended e = cc

  stopped_ended : (cause : StopCause) → Some (Stopped cause) ≡ Some Ended → ⊥
  stopped_ended cause e = cc

  after_open : (n : ℕ) → ((t : Session S) → AllEnds HasNoEnd (turns false m settings input n t)) → (c : Came S) →
      AllEnds HasNoEnd (after false c (λ t. turns false m settings input n t))
  unfolding after
  after_open n ih c = go c.flow
    where
      go : (flow : Flow) → AllEnds HasNoEnd (after false (came flow c.session) (λ t. turns false m settings input n t))
      go Goes = ih c.session
      go Jumps = ih c.session
      go Breaks = ih c.session
      go (Stops cause) = stopped_ended cause

  letter_open : (n : ℕ) → ((t : Session S) → AllEnds HasNoEnd (turns false m settings input n t)) → (s : Session S) (o : Option ℕ) →
      AllEnds HasNoEnd (at_letter false m settings input (λ t. turns false m settings input n t) s o)
  unfolding at_letter
  letter_open n ih s (Some byte) =
      leaves_bind (λ _. Unit {0}) HasNoEnd (turn m settings s byte) (λ c. after false c (λ t. turns false m settings input n t))
      (all_tt (turn m settings s byte)) (λ c _. after_open n ih c)
    where
      all_tt : {A : Type 0} (p : Play A) → AllEnds (λ _. Unit {0}) p
      all_tt (done a) = tt
      all_tt (ask c f) = λ x. all_tt (f x)
  letter_open n ih s None = rw open_yet wants_ended

  turns_open : (n : ℕ) (s : Session S) → AllEnds HasNoEnd (turns false m settings input n s)
  unfolding turns
  turns_open zero s = none_ended
  turns_open (suc n) s = letter_open n (λ t. turns_open n t) s (letter input s.next)

  hosted_ends : (host : List Call → Answer) (past : List Call) (p : Play (Rest S)) → AllEnds HasNoEnd p → HasNoEnd (hosted host past p).1
  hosted_ends host past (done a) h = h
  hosted_ends host past (ask c f) h = hosted_ends host (past ++ c ∷ []) (f (host (past ++ c ∷ []))) (h (host (past ++ c ∷ [])))

  -- a run whose input may go on does not end
  pub never_ends : (host : List Call → Answer) (past calls : List Call) (s t : Session S) →
      hosted host past (run_on false m settings input s) ≡ (calls, rest (Some Ended) t) → ⊥
  unfolding run_on
  never_ends host past calls s t e =
      hosted_ends host past (turns false m settings input (suc (weight s)) s) (turns_open (suc (weight s)) s)
      (ap (λ (r : List Call × Rest S). r.1.outcome) e)
