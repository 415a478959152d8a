-- Each turn descends.
use Rattle.rl_run.specs.declared.sessions.Flow.{Flow}
use Rattle.rl_run.specs.declared.sessions.Flow.TheVariants.{Goes, Jumps, Breaks, Stops}
use Rattle.rl_run.specs.declared.sessions.Settings.{Settings}
use Rattle.rl_run.specs.Machine.{Machine, Session}
use Rattle.rl_run.specs.Turn.{turn}
use Rattle.rl_run.specs.Run.{last_delivery}
use Rattle.rl_run.specs.Fine.{GoesOn, UnlessStops, bounds, IsLexBelow}
use Rattle.rl_run.specs.Laws.{IsDescending}
use Rattle.rl_run.proofs.Ends.{leaves_weaken}
use Rattle.rl_run.proofs.Law.{turn_law, delivery_law}

descends : {S : Type 0} (m : Machine S) (settings : Settings) (s t : Session S) (flow : Flow) → UnlessStops flow (GoesOn m settings s t) → UnlessStops flow (IsLexBelow (bounds t) (bounds s))
descends m settings s t Goes g = g.descends
descends m settings s t Jumps g = g.descends
descends m settings s t Breaks g = g.descends
descends m settings s t (Stops cause) g = tt

pub is_descending : {S : Type 0} (m : Machine S) → IsDescending m
is_descending m settings s kinded fine room = (
  λ byte. leaves_weaken _ _ (turn m settings s byte) (turn_law m settings s byte kinded fine room) (λ c g. descends m settings s c.session c.flow g),
  λ list e. leaves_weaken _ _ (last_delivery m settings s.next list s) (delivery_law m settings s list kinded fine room e) (λ c g. descends m settings s c.session c.flow g),
)
