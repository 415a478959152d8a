use Rattle.std.proofs.Common.{refl, sym}
use Rattle.rl_run.proofs.Plays.{plays_bind}
use Rattle.rl_run.specs.Turn as says
use Rattle.rl_runner.proofs.turns.fail.Goals as goal

pub returns-clause-plays : goal.returns-clause-plays
unfolding says.failed
returns-clause-plays g c =
    let first = rw (c.go_behind.ensures.says, c.error_list.ensures.value, c.error_state.ensures.value) at c.call_list-flow.ensures.plays in
    plays_bind _ _ _ _ _ _ _ _ first (refl, sym c.judge.ensures.says)
