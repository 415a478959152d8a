use Rattle.rl_ops.proofs.LiveLaws.{marks_tell}
use Rattle.rl_ops.proofs.live.live_states.Goals as goal

pub returns : goal.returns
returns c = marks_tell c.args.m.now c.states.ensures.sound c.sweeps.live.items c.sweeps.invariant.same_length (c.sweeps.invariant.closed c.sweeps-test.false) c.sweeps.invariant.live
