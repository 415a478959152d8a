use Rattle.std.proofs.Common.{◌≡◌, ◌++◌, length}
use Rattle.std.specs.Prelude.{reverse}
use Rattle.rl_includes.specs.Turns.{located}
use Rattle.rl_includes.proofs.queue.queue_of.Given as goal

abbrev pub invariant-loop-tree : goal.invariant-loop-tree
invariant-loop-tree l = located 0 l.blocks ++ reverse l.queue ≡ located 0 l.initial.blocks

abbrev pub decreases-loop-tree : goal.decreases-loop-tree
decreases-loop-tree l = length l.blocks
