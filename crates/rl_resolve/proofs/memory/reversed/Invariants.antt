use Rattle.std.proofs.Common.{◌≡◌, ◌++◌, length}
use Rattle.std.specs.Prelude.{reverse}
use Rattle.rl_resolve.proofs.memory.reversed.Given as goal

abbrev pub invariant-loop-item : goal.invariant-loop-item
invariant-loop-item g l = l.found ++ reverse l.list ≡ reverse l.initial.list

abbrev pub decreases-loop-item : goal.decreases-loop-item
decreases-loop-item g l = length l.list
