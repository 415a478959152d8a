use Rattle.std.proofs.Common.{◌≡◌, ◌≤◌, drop, length}
use Rattle.rl_build.specs.Adds.{insert_all}
use Rattle.rl_build.proofs.counting.add_conditions.Given as goal

abbrev pub invariant-loop-i : goal.invariant-loop-i
invariant-loop-i l = (l.i ≤ length l.more) × (l.conditions.items ≡ insert_all (drop l.i l.more) l.initial.conditions.items)

abbrev pub decreases-loop-i : goal.decreases-loop-i
decreases-loop-i l = l.i
