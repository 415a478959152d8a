use Rattle.std.proofs.Common.{◌≡◌, ◌++◌, drop}
use Rattle.rl_leaves.specs.Ranges.{left_out}
use Rattle.rl_leaves.proofs.ranges.left_out.Given as goal

abbrev pub invariant-loop-range : goal.invariant-loop-range
invariant-loop-range l = l.found ++ left_out l.last.0 l.behind.0 (drop l.range-index l.ranges) ≡ left_out l.fn.before.0 l.behind.0 l.ranges
