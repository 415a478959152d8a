use Rattle.std.proofs.Common.{◌+◌, length}
use Rattle.rl_classes.proofs.Merge.{Merges}
use Rattle.rl_classes.proofs.steps.merged.Given as goal

abbrev pub invariant-loop-key : goal.invariant-loop-key
invariant-loop-key g l = Merges l.left.first l.left.later.items l.right.first l.right.later.items l.later.items l.value l.lefts l.rights

abbrev pub decreases-loop-key : goal.decreases-loop-key
decreases-loop-key g l = length l.lefts + length l.rights
