use Rattle.std.proofs.Common.{◌≡◌, ◌++◌, drop}
use Rattle.rl_leaves.specs.Ranges.{put, put_some}
use Rattle.rl_leaves.proofs.ranges.put.Given as goal

abbrev pub invariant-loop-other : goal.invariant-loop-other
invariant-loop-other l = l.found ++ put_some l.held (drop l.other-index l.ranges) ≡ put l.fn.range l.ranges
