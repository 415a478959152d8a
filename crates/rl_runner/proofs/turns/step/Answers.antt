use Rattle.rl_run.proofs.Plays.{plays_bind, plays_goes, plays_ended}
use Rattle.rl_run.specs.Turn as says
use Rattle.rl_runner.proofs.turns.step.Goals as goal

pub returns-in-Goes-clause-plays : goal.returns-in-Goes-clause-plays
unfolding says.stepped
returns-in-Goes-clause-plays g c =
    let first = rw c.go_behind.ensures.says at c.in-Goes.ensures.plays in
    plays_bind _ _ _ _ _ _ _ _ first (plays_goes _ _ _ _ _ _ c.mark.ensures.plays)

pub returns-in_default : goal.returns-in_default
unfolding says.stepped
returns-in_default g c =
    let first = rw c.go_behind.ensures.says at c.call_list.ensures.plays in
    record {
      plays = plays_bind _ _ _ _ _ _ _ _ first (plays_ended _ _ _ _ _ c.in_default.not-Goes);
      sound = c.call_list.ensures.sound;
      callable = c.call_list.ensures.callable;
    }
