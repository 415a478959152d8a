use Rattle.std.proofs.Common.{◌+◌, ◌-◌, vec_len}
use Rattle.rl_explore.specs.Numbers.{Explored}
use Rattle.rl_explore.proofs.machine.walk.Given as goal

abbrev pub invariant-states : goal.invariant-states
invariant-states g l = Explored (g.O.Operator.auto l.op) (g.O.Operator.jams l.op) l.fn.room l.names l.states.items l.cycle

abbrev pub decreases-states : goal.decreases-states
decreases-states g l = (l.room + 1) - vec_len l.states
