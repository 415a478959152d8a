use Rattle.rl_run.proofs.Plays.{plays_bind}
use Rattle.rl_run.specs.Turn as says
use Rattle.rl_runner.proofs.turns.run_turn.Goals as goal

pub returns-clause-plays : goal.returns-clause-plays
unfolding says.turn
returns-clause-plays g c =
    let first = rw (c.open_token.ensures.says, c.spot_for-spot.ensures, c.key_in-key.ensures) at c.run_body-flow.ensures.plays in
    let second = rw (c.spot_for-spot.ensures, c.key_in-key.ensures) at c.finish.ensures.plays in
    plays_bind _ _ _ _ _ _ _ _ first second
