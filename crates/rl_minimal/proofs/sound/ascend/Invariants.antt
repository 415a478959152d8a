use Rattle.std.proofs.Common.{◌≡◌, length, map}
use Rattle.rl_fsm.specs.Reads.{ascend}
use Rattle.rl_minimal.specs.Minimal.{reads_of}
use Rattle.rl_minimal.proofs.sound.ascend.Given as goal

abbrev pub invariant-loop-rest : goal.invariant-loop-rest
invariant-loop-rest l = ascend (map reads_of l.edges) ≡ ascend (map reads_of l.rest)

abbrev pub decreases-loop-rest : goal.decreases-loop-rest
decreases-loop-rest l = length l.rest
