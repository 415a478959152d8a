-- Laws of plays.
use Rattle.std.proofs.Common.{◌≡◌, refl, sym, subst}
use Rattle.rl_run.specs.declared.calls.Call.{Call}
use Rattle.rl_run.specs.declared.calls.Answer.{Answer}
use Rattle.rl_run.specs.declared.sessions.Flow.{Flow}
use Rattle.rl_run.specs.declared.sessions.Flow.TheVariants.{Goes, Jumps, Breaks, Stops}
use Rattle.rl_run.specs.Machine.{Session}
use Rattle.rl_run.specs.Picks.{Came, came}
use Rattle.rl_run.specs.Turn.{if_goes}
use Rattle.rl_run.specs.Play.{Play, done, ask, bind, Plays}

-- a play of a program, and then of what follows it
pub plays_bind : {A B H : Type 0} (step : H → Call → Answer → H → Type 0) (h mid last : H) (p : Play A) (k : A → Play B) (a : A) (b : B) →
    Plays step h p mid a → Plays step mid (k a) last b → Plays step h (bind p k) last b
plays_bind step h mid last (done x) k a b (e, f) second =
    subst (λ w. Plays step w (k x) last b) (sym e) (subst (λ w. Plays step mid (k w) last b) (sym f) second)
plays_bind step h mid last (ask c f) k a b (x, m, s, first) second =
    (x, m, s, plays_bind step m mid last (f x) k a b first second)

-- a play that is done at once
pub plays_done : {A H : Type 0} (step : H → Call → Answer → H → Type 0) (h : H) (a : A) → Plays step h (done a) h a
plays_done step h a = (refl, refl)

-- on where nothing has ended the list
pub plays_goes : {S H : Type 0} (step : H → Call → Answer → H → Type 0) (h last : H) (s : Session S) (k : Session S → Play (Came S)) (a : Came S) →
    Plays step h (k s) last a → Plays step h (if_goes (came Goes s) k) last a
unfolding if_goes
plays_goes step h last s k a p = p

-- a list that was ended goes no further
pub plays_ended : {S H : Type 0} (step : H → Call → Answer → H → Type 0) (h : H) (flow : Flow) (s : Session S) (k : Session S → Play (Came S)) →
    (flow ≡ Goes → ⊥) → Plays step h (if_goes (came flow s) k) h (came flow s)
unfolding if_goes
plays_ended step h Goes s k not = absurd (not refl)
plays_ended step h Jumps s k not = (refl, refl)
plays_ended step h Breaks s k not = (refl, refl)
plays_ended step h (Stops cause) s k not = (refl, refl)
