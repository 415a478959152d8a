use Rattle.std.proofs.Common.{length}
use Rattle.rl_build.proofs.chain.+united.Given as goal

abbrev pub decreases-united : goal.decreases-united
decreases-united l = length l.operands.now
