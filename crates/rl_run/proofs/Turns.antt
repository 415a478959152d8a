-- Laws of the parts of a turn.
use Rattle.std.proofs.Common.{◌≡◌, ℕ, Some, None, refl, sym, ap, subst}
use Rattle.rl_types.specs.declared.numbers.Key.{Key}
use Rattle.rl_run.specs.declared.calls.Call.{Call}
use Rattle.rl_run.specs.declared.calls.CallKind.TheVariants.{To}
use Rattle.rl_run.specs.declared.calls.Answer.{Answer}
use Rattle.rl_run.specs.declared.sessions.Heard.{Heard}
use Rattle.rl_run.specs.declared.sessions.Flow.{Flow}
use Rattle.rl_run.specs.declared.sessions.Flow.TheVariants.{Goes, Jumps, Breaks, Stops}
use Rattle.rl_run.specs.declared.calls.Stop.{Stop as StopCause}
use Rattle.rl_run.specs.declared.sessions.Settings.{Settings}
use Rattle.rl_run.specs.Machine.{Go, Machine, Session}
use Rattle.rl_run.specs.Picks.{Came, Spot, came}
use Rattle.rl_run.specs.Turn.{calls, closed, finished, chosen, if_heard, missed, stepped}
use Rattle.rl_run.specs.Play.{Play, done, bind, Plays}

module _ {S : Type 0} (m : Machine S) (settings : Settings) (spot : Spot) where
  pub finished_else : (flow : Flow) (s : Session S) → (flow ≡ Breaks → ⊥) → ((cause : StopCause) → flow ≡ Stops cause → ⊥) →
      finished m settings spot (came flow s) ≡ bind (calls m settings spot To (m.to s.state) s) (λ d. done (closed d))
  unfolding finished
  finished_else Goes s b t = refl
  finished_else Jumps s b t = refl
  finished_else Breaks s b t = absurd (b refl)
  finished_else (Stops cause) s b t = absurd (t cause refl)

  pub chosen_none : (key : Key) (s : Session S) (hold : ℕ) → m.find s.state key hold ≡ None →
      chosen m settings spot key s hold ≡ missed m settings spot s
  unfolding chosen
  chosen_none key s hold f = ap (λ o. elim o as (λ _. Play (Came S)) [ None ↦ missed m settings spot s | Some go ↦ stepped m settings spot s go ]) f

  pub chosen_some : (key : Key) (s : Session S) (hold : ℕ) (go : Go S) → m.find s.state key hold ≡ Some go →
      chosen m settings spot key s hold ≡ stepped m settings spot s go
  unfolding chosen
  chosen_some key s hold go f = ap (λ o. elim o as (λ _. Play (Came S)) [ None ↦ missed m settings spot s | Some go ↦ stepped m settings spot s go ]) f

-- on behind the conditions
pub plays_stop : {S H : Type 0} (step : H → Call → Answer → H → Type 0) (h : H) (s : Session S) (heard : Heard) (cause : StopCause) (k : ℕ → Play (Came S)) →
    heard.flow ≡ Stops cause → Plays step h (if_heard s heard k) h (came (Stops cause) s)
unfolding if_heard
plays_stop {S} step h s heard cause k e = subst (λ f. Plays step h (elim f as (λ _. Play (Came S)) [ Stops c ↦ done (came (Stops c) s) | _ ↦ k heard.hold ]) h (came (Stops cause) s)) (sym e) (refl, refl)

pub plays_heard : {S H : Type 0} (step : H → Call → Answer → H → Type 0) (h last : H) (s : Session S) (flow : Flow) (hold : ℕ) (k : ℕ → Play (Came S)) (a : Came S) →
    ((cause : StopCause) → flow ≡ Stops cause → ⊥) → Plays step h (k hold) last a → Plays step h (if_heard s (record { flow = flow; hold = hold }) k) last a
unfolding if_heard
plays_heard step h last s Goes hold k a n p = p
plays_heard step h last s Jumps hold k a n p = p
plays_heard step h last s Breaks hold k a n p = p
plays_heard step h last s (Stops cause) hold k a n p = absurd (n cause refl)
