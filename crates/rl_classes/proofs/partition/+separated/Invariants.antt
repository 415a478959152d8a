use Rattle.std.proofs.Common.{length}
use Rattle.rl_classes.proofs.partition.+separated.Given as goal

abbrev pub decreases-separated : goal.decreases-separated
decreases-separated l = length l.sets.now
