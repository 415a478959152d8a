use Rattle.std.proofs.Common.{◌≡◌, ◌<◌, ◌-◌, drop, length, map}
use Rattle.rl_fsm.specs.Reads.{ascend}
use Rattle.rl_fsm.specs.Graphs.{reads_of}
use Rattle.rl_fsm.proofs.sound.ascend.Given as goal

abbrev pub invariant-pairs : goal.invariant-pairs
invariant-pairs l = record {
  place : 0 < l.i;
  rest : ascend (map reads_of l.edges) ≡ ascend (map reads_of (drop (l.i - 1) l.edges));
}

abbrev pub decreases-pairs : goal.decreases-pairs
decreases-pairs l = length l.edges - l.i
