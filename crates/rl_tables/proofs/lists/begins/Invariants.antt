use Rattle.std.proofs.Common.{◌≡◌, ◌<◌, ◌^◌}
use Rattle.rl_arrays.specs.Lists.{left_at}
use Rattle.rl_tables.proofs.lists.begins.Given as goal

abbrev pub invariant-loop-i : goal.invariant-loop-i
invariant-loop-i l = (l.left ≡ left_at l.lists l.i) × (l.left < 2 ^ 63)
