-- A run that is broken off stands at a lower weight than it began with.
use Rattle.std.proofs.Common.{◌≡◌, ℕ, zero, suc, ◌^◌, ◌<◌, ◌≤◌, Bool, true, false, cond, List, Option, Some, None, refl, ap, subst, arith, nat_lt}
use Rattle.std.proofs.lemmas.Bool.Decides.{nat_tests}
use Rattle.rl_run.specs.declared.calls.Call.{Call}
use Rattle.rl_run.specs.declared.calls.Answer.{Answer}
use Rattle.rl_run.specs.declared.calls.Outcome.{Outcome}
use Rattle.rl_run.specs.declared.calls.Outcome.TheVariants.{Wants, Broke, Ended, Stopped}
use Rattle.rl_run.specs.declared.calls.CallKind.TheVariants.{Eof}
use Rattle.rl_run.specs.declared.calls.Stop.{Stop as StopCause}
use Rattle.rl_run.specs.declared.calls.Stop.TheVariants.{PastEnd, HalfKey}
use Rattle.rl_run.specs.declared.sessions.Flow.{Flow}
use Rattle.rl_run.specs.declared.sessions.Flow.TheVariants.{Goes, Jumps, Breaks, Stops}
use Rattle.rl_run.specs.declared.sessions.Settings.{Settings}
use Rattle.rl_run.specs.Machine.{Machine, Session, keep}
use Rattle.rl_run.specs.Picks.{Came, came}
use Rattle.rl_run.specs.Turn.{calls, turn}
use Rattle.rl_run.specs.Run.{Input, Rest, rest, letter, after, last_delivery, last_list, over, at_kept, ending, at_end, end_of, end_spot, at_letter, turns}
use Rattle.rl_run.specs.Play.{Play, done, bind, Plays, AllEnds}
use Rattle.rl_run.specs.Chain.{run_on}
use Rattle.rl_run.specs.Fine.{IsKinded, IsFine, GoesOn, UnlessStops, weight}
use Rattle.rl_run.proofs.Cuts.{plays_apart, seen_before, unseen_past}
use Rattle.rl_run.proofs.Ends.{leaf}
use Rattle.rl_run.proofs.Law.{turn_law, delivery_law}

module _ {S H : Type 0} (step : H → Call → Answer → H → Type 0) (m : Machine S) (kinded : IsKinded m) (settings : Settings)
    (input : Input) (limit : end_of input < 2 ^ 63) (last : H) (t : Session S) where
  abbrev end : Rest S
  end = rest (Some Broke) t

  -- so many turns, when they are broken off, come to a lower weight
  abbrev pub Lowers : ℕ → Type 0
  Lowers n = (s : Session S) (h : H) → IsFine m s → input.base ≤ keep settings s → Plays step h (turns true m settings input n s) last end → weight t < weight s

  -- a run that ended otherwise is not broken off
  other : {A : Type 0} (o : Option Outcome) (u : Session S) → (o ≡ Some Broke → ⊥) → rest o u ≡ end → A
  other o u n e = absurd (n (ap (λ (w : Rest S). w.outcome) e))

  not_stopped : (cause : StopCause) → Some (Stopped cause) ≡ Some Broke → ⊥
  not_stopped cause e = cc

  not_wants : Some Wants ≡ Some Broke → ⊥
  not_wants e = cc

  not_ended : Some Ended ≡ Some Broke → ⊥
  not_ended e = cc

  not_spent : None ≡ Some Broke → ⊥
  not_spent e = cc

  behind : (n : ℕ) → Lowers n → (s : Session S) → input.base ≤ keep settings s → (flow : Flow) (u : Session S) (g : H) → UnlessStops flow (GoesOn m settings s u) →
      Plays step g (after true (came flow u) (λ v. turns true m settings input n v)) last end → weight t < weight s
  unfolding after
  behind n ih s low Goes u g f p = let falls = f.falls in let keeps = f.keeps in let more = ih u g f.fine (omega arith) p in omega arith
  behind n ih s low Jumps u g f p = let falls = f.falls in let keeps = f.keeps in let more = ih u g f.fine (omega arith) p in omega arith
  behind n ih s low Breaks u g f p = subst (λ v. weight v < weight s) (ap (λ (w : Rest S). w.session) p.1) f.falls
  behind n ih s low (Stops cause) u g f p = other (Some (Stopped cause)) u (not_stopped cause) p.1

  joined : (n : ℕ) → Lowers n → (s : Session S) → input.base ≤ keep settings s → (first : Play (Came S)) (h : H) →
      AllEnds (λ c. UnlessStops c.flow (GoesOn m settings s c.session)) first →
      Plays step h (bind first (λ c. after true c (λ v. turns true m settings input n v))) last end → weight t < weight s
  joined n ih s low first h law p =
      let a = plays_apart step h last first (λ c. after true c (λ v. turns true m settings input n v)) end p in
      behind n ih s low a.1.flow a.1.session a.0 (leaf (λ c. UnlessStops c.flow (GoesOn m settings s c.session)) step h a.0 first a.1 law a.2) a.3

  -- the end-of-file list comes to an end or a stop
  listed : (at : ℕ) (s : Session S) (h : H) → Plays step h (last_list m settings at s) last end → weight t < weight s
  unfolding last_list
  listed at s h p =
      let a = plays_apart step h last (calls m settings (end_spot settings s at true) Eof (m.eof s.state) s) (λ c. done (over c)) end p in
      go a.1.flow a.1.session a.3.1
    where
      go : (flow : Flow) (u : Session S) → over (came flow u) ≡ end → weight t < weight s
      go Goes u e = other (Some Ended) u not_ended e
      go Jumps u e = other (Some Ended) u not_ended e
      go Breaks u e = other (Some Ended) u not_ended e
      go (Stops cause) u e = other (Some (Stopped cause)) u (not_stopped cause) e

  kept : (n : ℕ) → Lowers n → (s : Session S) (h : H) → IsFine m s → input.base ≤ keep settings s → s.next ≡ end_of input → (list : Option (List ℕ)) → s.kept ≡ list →
      Plays step h (at_kept true m settings (end_of input) s (λ v. turns true m settings input n v) list) last end → weight t < weight s
  unfolding at_kept
  kept n ih s h fine low at (Some list) e p =
      joined n ih s low (last_delivery m settings (end_of input) list s) h
      (subst (λ q. AllEnds (λ c. UnlessStops c.flow (GoesOn m settings s c.session)) (last_delivery m settings q list s)) at
      (delivery_law m settings s list kinded fine (omega (arith, at, limit)) e)) p
  kept n ih s h fine low at None e p = listed (end_of input) s h p

  ended : (n : ℕ) → Lowers n → (s : Session S) (h : H) → IsFine m s → input.base ≤ keep settings s → letter input s.next ≡ None →
      Plays step h (ending true m settings (end_of input) s (λ v. turns true m settings input n v)) last end → weight t < weight s
  unfolding ending
  ended n ih s h fine low e p = go (nat_lt (end_of input) s.next) refl p
    where
      go : (d : Bool) → nat_lt (end_of input) s.next ≡ d →
          Plays step h (cond d (done (rest (Some (Stopped PastEnd)) s)) (at_kept true m settings (end_of input) s (λ v. turns true m settings input n v) s.kept)) last end → weight t < weight s
      go true x q = other (Some (Stopped PastEnd)) s (not_stopped PastEnd) q.1
      go false x q =
          let within : s.next ≤ end_of input = grind (arith, nat_tests) in
          let past : end_of input ≤ s.next = unseen_past input s.next e (omega arith) in
          kept n ih s h fine low (omega arith) s.kept refl q

  at_ended : (n : ℕ) → Lowers n → (s : Session S) (h : H) → IsFine m s → input.base ≤ keep settings s → letter input s.next ≡ None →
      Plays step h (at_end true m settings input (λ v. turns true m settings input n v) s) last end → weight t < weight s
  unfolding at_end
  at_ended n ih s h fine low e p = go input.has_rest p
    where
      go : (d : Bool) →
          Plays step h
          (cond d (done (rest (Some (Stopped HalfKey)) s)) (ending true m settings (end_of input) s (λ v. turns true m settings input n v))) last end →
          weight t < weight s
      go true q = other (Some (Stopped HalfKey)) s (not_stopped HalfKey) q.1
      go false q = ended n ih s h fine low e q

  lettered : (n : ℕ) → Lowers n → (s : Session S) (h : H) → IsFine m s → input.base ≤ keep settings s → (l : Option ℕ) → letter input s.next ≡ l →
      Plays step h (at_letter true m settings input (λ v. turns true m settings input n v) s l) last end → weight t < weight s
  unfolding at_letter
  lettered n ih s h fine low (Some character) e p =
      joined n ih s low (turn m settings s character) h (turn_law m settings s character kinded fine (omega (arith, seen_before input s.next character e))) p
  lettered n ih s h fine low None e p = go input.is_closed p
    where
      go : (d : Bool) → Plays step h (cond d (at_end true m settings input (λ v. turns true m settings input n v) s) (done (rest (Some Wants) s))) last end →
          weight t < weight s
      go true q = at_ended n ih s h fine low e q
      go false q = other (Some Wants) s not_wants q.1

  pub turns_lower : (n : ℕ) → Lowers n
  unfolding turns
  turns_lower zero s h fine low p = other None s not_spent p.1
  turns_lower (suc n) s h fine low p = lettered n (turns_lower n) s h fine low (letter input s.next) refl p

-- so the whole run
pub broke_lowers : {S H : Type 0} (step : H → Call → Answer → H → Type 0) (m : Machine S) (settings : Settings) (input : Input) (h last : H) (s t : Session S) →
    IsKinded m → IsFine m s → input.base ≤ keep settings s → end_of input < 2 ^ 63 →
    Plays step h (run_on true m settings input s) last (rest (Some Broke) t) → weight t < weight s
unfolding run_on
broke_lowers step m settings input h last s t kinded fine low limit p =
    turns_lower step m kinded settings input limit last t (suc (weight s)) s h fine low p
