-- A run that is broken off at breaks and meets none is the run that goes on behind them.
use Rattle.std.proofs.Common.{◌≡◌, ℕ, zero, suc, true, false, cond, List, Option, Some, None, ap, nat_lt}
use Rattle.rl_run.specs.declared.calls.Call.{Call}
use Rattle.rl_run.specs.declared.calls.Answer.{Answer}
use Rattle.rl_run.specs.declared.calls.Outcome.{Outcome}
use Rattle.rl_run.specs.declared.calls.Outcome.TheVariants.{Wants, Broke, Stopped}
use Rattle.rl_run.specs.declared.calls.Stop.TheVariants.{PastEnd, HalfKey}
use Rattle.rl_run.specs.declared.sessions.Flow.{Flow}
use Rattle.rl_run.specs.declared.sessions.Flow.TheVariants.{Goes, Jumps, Breaks, Stops}
use Rattle.rl_run.specs.declared.sessions.Settings.{Settings}
use Rattle.rl_run.specs.Machine.{Machine, Session}
use Rattle.rl_run.specs.Picks.{Came, came}
use Rattle.rl_run.specs.Turn.{turn}
use Rattle.rl_run.specs.Run.{Input, Rest, rest, letter, after, last_delivery, at_kept, ending, at_end, end_of, at_letter, turns}
use Rattle.rl_run.specs.Play.{Play, done, bind, Plays}
use Rattle.rl_run.specs.Chain.{run_on}
use Rattle.rl_run.specs.Fine.{weight}
use Rattle.rl_run.proofs.Cuts.{plays_apart}
use Rattle.rl_run.proofs.Plays.{plays_bind}

module _ {S H : Type 0} (step : H → Call → Answer → H → Type 0) (m : Machine S) (settings : Settings) (input : Input)
    (last : H) (o : Outcome) (t : Session S) (unbroken : o ≡ Broke → ⊥) where
  abbrev end : Rest S
  end = rest (Some o) t

  -- what goes on the one way goes on the other
  abbrev Same : ℕ → Type 0
  Same n = (u : Session S) (g : H) → Plays step g (turns true m settings input n u) last end → Plays step g (turns false m settings input n u) last end

  behind : (n : ℕ) → Same n → (flow : Flow) (u : Session S) (g : H) →
      Plays step g (after true (came flow u) (λ v. turns true m settings input n v)) last end → Plays step g (after false (came flow u) (λ v. turns false m settings input n v)) last end
  unfolding after
  behind n ih Goes u g p = ih u g p
  behind n ih Jumps u g p = ih u g p
  behind n ih Breaks u g p = absurd (unbroken (broke (ap (λ (w : Rest S). w.outcome) p.1)))
    where
      broke : Some Broke ≡ Some o → o ≡ Broke
      broke e = cc
  behind n ih (Stops cause) u g p = p

  joined : (n : ℕ) → Same n → (first : Play (Came S)) (h : H) → Plays step h (bind first (λ c. after true c (λ v. turns true m settings input n v))) last end →
      Plays step h (bind first (λ c. after false c (λ v. turns false m settings input n v))) last end
  joined n ih first h p =
      let a = plays_apart step h last first (λ c. after true c (λ v. turns true m settings input n v)) end p in
      plays_bind step h a.0 last first (λ c. after false c (λ v. turns false m settings input n v)) a.1 end a.2 (behind n ih a.1.flow a.1.session a.0 a.3)

  kept : (n : ℕ) → Same n → (at : ℕ) (s : Session S) (h : H) (list : Option (List ℕ)) →
      Plays step h (at_kept true m settings at s (λ v. turns true m settings input n v) list) last end → Plays step h (at_kept false m settings at s (λ v. turns false m settings input n v) list) last end
  unfolding at_kept
  kept n ih at s h (Some list) p = joined n ih (last_delivery m settings at list s) h p
  kept n ih at s h None p = p

  ended : (n : ℕ) → Same n → (at : ℕ) (s : Session S) (h : H) →
      Plays step h (ending true m settings at s (λ v. turns true m settings input n v)) last end → Plays step h (ending false m settings at s (λ v. turns false m settings input n v)) last end
  unfolding ending
  ended n ih at s h p = (elim (nat_lt at s.next) as (λ b. Plays step h (cond b (done (rest (Some (Stopped PastEnd)) s)) (at_kept true m settings at s (λ v. turns true m settings input n v) s.kept)) last end →
      Plays step h (cond b (done (rest (Some (Stopped PastEnd)) s)) (at_kept false m settings at s (λ v. turns false m settings input n v) s.kept)) last end) [
        | true ↦ λ p. p
        | false ↦ λ p. kept n ih at s h s.kept p
      ]) p

  at_ended : (n : ℕ) → Same n → (s : Session S) (h : H) →
      Plays step h (at_end true m settings input (λ v. turns true m settings input n v) s) last end →
      Plays step h (at_end false m settings input (λ v. turns false m settings input n v) s) last end
  unfolding at_end
  at_ended n ih s h p =
      (elim input.has_rest as
      (λ b. Plays step h
      (cond b (done (rest (Some (Stopped HalfKey)) s)) (ending true m settings (end_of input) s (λ v. turns true m settings input n v))) last end →
      Plays step h
      (cond b (done (rest (Some (Stopped HalfKey)) s)) (ending false m settings (end_of input) s (λ v. turns false m settings input n v))) last end) [
        | true ↦ λ p. p
        | false ↦ λ p. ended n ih (end_of input) s h p
      ]) p

  lettered : (n : ℕ) → Same n → (s : Session S) (h : H) (l : Option ℕ) →
      Plays step h (at_letter true m settings input (λ v. turns true m settings input n v) s l) last end → Plays step h (at_letter false m settings input (λ v. turns false m settings input n v) s l) last end
  unfolding at_letter
  lettered n ih s h (Some character) p = joined n ih (turn m settings s character) h p
  lettered n ih s h None p =
      (elim input.is_closed as
      (λ b. Plays step h (cond b (at_end true m settings input (λ v. turns true m settings input n v) s) (done (rest (Some Wants) s))) last end →
      Plays step h (cond b (at_end false m settings input (λ v. turns false m settings input n v) s) (done (rest (Some Wants) s))) last end) [
        | true ↦ λ p. at_ended n ih s h p
        | false ↦ λ p. p
      ]) p

  turns_same : (n : ℕ) → Same n
  unfolding turns
  turns_same zero u g p = p
  turns_same (suc n) u g p = lettered n (turns_same n) u g (letter input u.next) p

  -- so the whole run
  pub run_unbroken : (s : Session S) (h : H) → Plays step h (run_on true m settings input s) last end → Plays step h (run_on false m settings input s) last end
  unfolding run_on
  run_unbroken s h p = turns_same (suc (weight s)) s h p
