use Rattle.std.proofs.Common.{◌≡◌, ◌++◌, length}
use Rattle.rl_leaves.specs.RegularExpressions.{regular_items}
use Rattle.rl_leaves.proofs.regular_item.regular_items.Given as goal

abbrev pub invariant-items : goal.invariant-items
invariant-items l = l.items ++ regular_items l.rest ≡ regular_items l.characters

abbrev pub decreases-items : goal.decreases-items
decreases-items l = length l.rest
