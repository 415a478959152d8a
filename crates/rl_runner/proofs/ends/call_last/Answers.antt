use Rattle.std.proofs.Common.{refl}
use Rattle.rl_run.specs.Run.{last_list}
use Rattle.rl_run.proofs.Plays.{plays_bind}
use Rattle.rl_run.proofs.Runs.{over_ended}
use Rattle.rl_runner.proofs.ends.call_last.Goals as goal

pub returns-in-Stops-clause-plays : goal.returns-in-Stops-clause-plays
unfolding last_list
returns-in-Stops-clause-plays g c =
    let first = rw (c.spot_at_end-spot.ensures, c.eof_list.ensures.value) at c.in-Stops.ensures.plays in
    plays_bind _ _ _ _ _ _ _ _ first (refl, refl)

pub returns-in_default-clause-plays : goal.returns-in_default-clause-plays
unfolding last_list
returns-in_default-clause-plays g c =
    let first = rw (c.spot_at_end-spot.ensures, c.eof_list.ensures.value) at c.call_list.ensures.plays in
    plays_bind _ _ _ _ _ _ _ _ first (refl, over_ended _ _ c.in_default.not-Stops)
