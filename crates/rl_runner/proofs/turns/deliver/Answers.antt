use Rattle.std.proofs.Common.{refl}
use Rattle.rl_run.proofs.Plays.{plays_bind}
use Rattle.rl_run.specs.Turn as says
use Rattle.rl_runner.proofs.turns.deliver.Goals as goal

pub returns-clause-plays : goal.returns-clause-plays
unfolding says.deliver
returns-clause-plays g c =
    let first = rw (c.send_home.ensures.says, c.token_list.ensures.value) at c.call_list-flow.ensures.plays in
    plays_bind _ _ _ _ _ _ _ _ first (refl, c.clear_token.ensures.cleared)
