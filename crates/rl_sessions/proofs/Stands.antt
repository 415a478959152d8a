-- Where a run over an input that may go on stands.
use Rattle.std.proofs.Common.{◌≡◌, ℕ, zero, suc, ◌^◌, ◌<◌, Bool, true, false, cond, Option, Some, None, refl, subst, arith}
use Rattle.rl_run.specs.declared.calls.Call.{Call}
use Rattle.rl_run.specs.declared.calls.Answer.{Answer}
use Rattle.rl_run.specs.declared.calls.Outcome.{Outcome}
use Rattle.rl_run.specs.declared.calls.Outcome.TheVariants.{Wants, Broke, Ended, Stopped}
use Rattle.rl_run.specs.declared.sessions.Flow.{Flow}
use Rattle.rl_run.specs.declared.sessions.Flow.TheVariants.{Goes, Jumps, Breaks, Stops}
use Rattle.rl_run.specs.declared.sessions.Settings.{Settings}
use Rattle.rl_run.specs.Machine.{Machine, Session}
use Rattle.rl_run.specs.Picks.{came}
use Rattle.rl_run.specs.Turn.{turn}
use Rattle.rl_run.specs.Run.{Input, Rest, rest, letter, after, at_end, end_of, at_letter, turns}
use Rattle.rl_run.specs.Play.{done, Plays}
use Rattle.rl_run.specs.Fine.{IsKinded, IsFine, GoesOn, UnlessStops}
use Rattle.rl_run.proofs.Cuts.{plays_apart, seen_before}
use Rattle.rl_run.proofs.Ends.{leaf}
use Rattle.rl_run.proofs.Law.{turn_law}
use Rattle.rl_sessions.specs.Short.{IsShort}
use Rattle.rl_sessions.proofs.Shorts.{turn_short}

module _ {S : Type 0} (m : Machine S) (settings : Settings) where
  -- a run that may go on stands at a session that it may have; none ends
  abbrev pub StandsBy : Option Outcome → Session S → Type 0
  StandsBy None t = Unit {0}
  StandsBy (Some Wants) t = IsFine m t × IsShort settings t
  StandsBy (Some Broke) t = IsFine m t × IsShort settings t
  StandsBy (Some Ended) t = ⊥
  StandsBy (Some (Stopped cause)) t = Unit {0}

  abbrev pub Stands : Rest S → Type 0
  Stands r = StandsBy r.outcome r.session

module _ {S H : Type 0} (step : H → Call → Answer → H → Type 0) (m : Machine S) (kinded : IsKinded m) (settings : Settings)
    (input : Input) (limit : end_of input < 2 ^ 63) (not_closed : input.is_closed ≡ false) (last : H) (r : Rest S) where
  abbrev Right : ℕ → Type 0
  Right n = (s : Session S) (h : H) → IsFine m s → IsShort settings s → Plays step h (turns true m settings input n s) last r → Stands m settings r

  behind : (n : ℕ) → Right n → (s : Session S) → (flow : Flow) (u : Session S) (g : H) → UnlessStops flow (GoesOn m settings s u) → UnlessStops flow (IsShort settings u) →
      Plays step g (after true (came flow u) (λ v. turns true m settings input n v)) last r → Stands m settings r
  unfolding after
  behind n ih s Goes u g f short p = ih u g f.fine short p
  behind n ih s Jumps u g f short p = ih u g f.fine short p
  behind n ih s Breaks u g f short p = subst (Stands m settings) p.1 (f.fine, short)
  behind n ih s (Stops cause) u g f short p = subst (Stands m settings) p.1 tt

  lettered : (n : ℕ) → Right n → (s : Session S) (h : H) → IsFine m s → IsShort settings s → (l : Option ℕ) → letter input s.next ≡ l →
      Plays step h (at_letter true m settings input (λ v. turns true m settings input n v) s l) last r → Stands m settings r
  unfolding at_letter
  lettered n ih s h fine short (Some byte) e p =
      let law = turn_law m settings s byte kinded fine (omega (arith, seen_before input s.next byte e)) in
      let a = plays_apart step h last (turn m settings s byte) (λ c. after true c (λ v. turns true m settings input n v)) r p in
      behind n ih s a.1.flow a.1.session a.0
      (leaf (λ c. UnlessStops c.flow (GoesOn m settings s c.session)) step h a.0 (turn m settings s byte) a.1 law a.2)
      (leaf (λ c. UnlessStops c.flow (IsShort settings c.session)) step h a.0 (turn m settings s byte) a.1 (turn_short m kinded settings s fine byte) a.2) a.3
  lettered n ih s h fine short None e p = go input.is_closed not_closed p
    where
      go : (d : Bool) → d ≡ false →
          Plays step h (cond d (at_end true m settings input (λ v. turns true m settings input n v) s) (done (rest (Some Wants) s))) last r →
          Stands m settings r
      go true x q = absurd (no x)
        where
          no : true ≡ false → ⊥
          no x = cc
      go false x q = subst (Stands m settings) q.1 (fine, short)

  pub turns_stand : (n : ℕ) → Right n
  unfolding turns
  turns_stand zero s h fine short p = subst (Stands m settings) p.1 tt
  turns_stand (suc n) s h fine short p = lettered n (turns_stand n) s h fine short (letter input s.next) refl p
