use Rattle.std.proofs.Common.{◌≡◌, take, map}
use Rattle.rl_fsm.specs.Graphs.{fsm_auto}
use Rattle.rl_ops.proofs.all.outs_of.Given as goal

abbrev pub invariant-loop-i : goal.invariant-loop-i
invariant-loop-i l = l.outs.items ≡ map (fsm_auto l.m).out (take l.i-index l.states)
