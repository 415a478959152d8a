-- What holds wherever a program may end.
use Rattle.std.proofs.Common.{◌≡◌, refl, subst}
use Rattle.rl_run.specs.declared.calls.Call.{Call}
use Rattle.rl_run.specs.declared.calls.Answer.{Answer}
use Rattle.rl_run.specs.declared.sessions.Flow.{Flow}
use Rattle.rl_run.specs.declared.sessions.Flow.TheVariants.{Goes, Jumps, Breaks, Stops}
use Rattle.rl_run.specs.declared.calls.Stop.{Stop as StopCause}
use Rattle.rl_run.specs.Fine.{UnlessStops}
use Rattle.rl_run.specs.Machine.{Session}
use Rattle.rl_run.specs.Picks.{Came}
use Rattle.rl_run.specs.Turn.{if_goes}
use Rattle.rl_run.specs.Play.{AllEnds, Play, done, ask, bind, Plays}

pub leaves_weaken : {A : Type 0} (P Q : A → Type 0) (p : Play A) → AllEnds P p → ((a : A) → P a → Q a) → AllEnds Q p
leaves_weaken P Q (done a) h k = k a h
leaves_weaken P Q (ask c f) h k = λ x. leaves_weaken P Q (f x) (h x) k

pub leaves_bind : {A B : Type 0} (P : A → Type 0) (Q : B → Type 0) (p : Play A) (k : A → Play B) → AllEnds P p → ((a : A) → P a → AllEnds Q (k a)) → AllEnds Q (bind p k)
leaves_bind P Q (done a) k h f = f a h
leaves_bind P Q (ask c g) k h f = λ x. leaves_bind P Q (g x) k (h x) f

-- where a play ends, this holds
pub leaf : {A H : Type 0} (P : A → Type 0) (step : H → Call → Answer → H → Type 0) (h last : H) (p : Play A) (a : A) → AllEnds P p → Plays step h p last a → P a
leaf P step h last (done x) a l (e, f) = subst P f l
leaf P step h last (ask c f) a l (x, mid, s, rest) = leaf P step mid last (f x) a (l x) rest

pub if_goes_leaves : {S : Type 0} (P : Came S → Type 0) (c : Came S) (k : Session S → Play (Came S)) → P c → AllEnds P (k c.session) → AllEnds P (if_goes c k)
unfolding if_goes
if_goes_leaves {S} P c k p q = go c.flow
  where
    go : (flow : Flow) → AllEnds P (elim flow as (λ _. Play (Came S)) [ Goes ↦ k c.session | Jumps ↦ done c | Breaks ↦ done c | Stops _ ↦ done c ])
    go Goes = q
    go Jumps = p
    go Breaks = p
    go (Stops _) = p

pub unless_stops : (flow : Flow) (P : Type 0) → ((cause : StopCause) → flow ≡ Stops cause → ⊥) → UnlessStops flow P → P
unless_stops Goes P n p = p
unless_stops Jumps P n p = p
unless_stops Breaks P n p = p
unless_stops (Stops cause) P n p = absurd (n cause refl)
