use Rattle.rl_run.proofs.Plays.{plays_bind, plays_goes, plays_ended}
use Rattle.rl_run.specs.Turn as says
use Rattle.rl_runner.proofs.turns.run_body.Goals as goal

pub returns-in-Goes-clause-plays : goal.returns-in-Goes-clause-plays
unfolding says.body
returns-in-Goes-clause-plays g c =
    let first = rw c.from_list.ensures.value at c.in-Goes.ensures.plays in
    rw (← c.is_overlong.ensures, c.if-is_overlong.false)
    (plays_bind _ _ _ _ _ _ _ _ first (plays_goes _ _ _ _ _ _ c.seek.ensures.plays))

pub returns-in_default : goal.returns-in_default
unfolding says.body
returns-in_default g c =
    let first = rw c.from_list.ensures.value at c.call_list.ensures.plays in
    record {
      plays = rw (← c.is_overlong.ensures, c.if-is_overlong.false) (plays_bind _ _ _ _ _ _ _ _ first (plays_ended _ _ _ _ _ c.in_default.not-Goes));
      sound = c.call_list.ensures.sound;
      callable = c.call_list.ensures.callable;
    }
