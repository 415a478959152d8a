use Rattle.std.proofs.Common.{refl, sym}
use Rattle.rl_run.proofs.Plays.{plays_bind}
use Rattle.rl_run.proofs.Turns.{finished_else}
use Rattle.rl_runner.proofs.turns.finish.Goals as goal

pub returns-in_default-clause-plays : goal.returns-in_default-clause-plays
returns-in_default-clause-plays g c =
    let first = rw c.to_list.ensures.value at c.call_list-ended.ensures.plays in
    rw (finished_else _ _ _ c.args.flow _ c.in_default.not-Breaks c.in_default.not-Stops)
    (plays_bind _ _ _ _ _ _ _ _ first (refl, sym c.close.ensures.says))
