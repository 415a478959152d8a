use Rattle.rl_run.specs.Turn as says
use Rattle.rl_runner.proofs.turns.miss.Goals as goal

pub returns-in-None-clause-plays : goal.returns-in-None-clause-plays
unfolding says.missed
returns-in-None-clause-plays g c = rw c.in-None.is c.fail.ensures.plays

pub returns-in-Some-clause-plays : goal.returns-in-Some-clause-plays
unfolding says.missed
returns-in-Some-clause-plays g c = rw c.in-Some.is c.deliver.ensures.plays
