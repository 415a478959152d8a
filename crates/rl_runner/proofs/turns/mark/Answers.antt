use Rattle.rl_run.specs.Turn as says
use Rattle.rl_runner.proofs.turns.mark.Goals as goal

pub returns-in-4-clause-plays : goal.returns-in-4-clause-plays
unfolding says.marked
returns-in-4-clause-plays g c =
    let delivered = rw c.keep_token-in-4.ensures.says at c.deliver.ensures.plays in
    rw (← c.kind.ensures, c.in-4.is) delivered
