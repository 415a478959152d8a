use Rattle.rl_run.proofs.Plays.{plays_bind}
use Rattle.rl_run.proofs.Turns.{plays_stop, plays_heard}
use Rattle.rl_run.specs.Turn as says
use Rattle.rl_runner.proofs.turns.seek.Goals as goal

pub returns-in-Stops-clause-plays : goal.returns-in-Stops-clause-plays
unfolding says.sought
returns-in-Stops-clause-plays g c =
    let first = rw c.asks-asked.ensures at c.ask_all-heard.ensures.plays in
    plays_bind _ _ _ _ _ _ _ _ first (plays_stop _ _ _ _ _ _ c.in-Stops.is)

pub returns-in_default-clause-plays : goal.returns-in_default-clause-plays
unfolding says.sought
returns-in_default-clause-plays g c =
    let first = rw c.asks-asked.ensures at c.ask_all-heard.ensures.plays in
    plays_bind _ _ _ _ _ _ _ _ first (plays_heard _ _ _ _ _ _ _ _ c.in_default.not-Stops c.choose.ensures.plays)
