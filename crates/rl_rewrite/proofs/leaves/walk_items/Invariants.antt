use Rattle.std.proofs.Common.{◌≡◌, ◌+◌, ◌≤◌, drop}
use Rattle.rl_rewrite.specs.Steps.{placed_of, AreFew, items_behind}
use Rattle.rl_rewrite.proofs.leaves.walk_items.Given as goal

abbrev pub invariant-loop-item : goal.invariant-loop-item
invariant-loop-item l = (l.counts.stamp ≤ l.initial.counts.stamp + l.item-index) × AreFew l.counts
    × (items_behind l.at (drop l.item-index l.items) (placed_of l.x) l.counts ≡ items_behind l.at l.items (placed_of l.initial.x) l.initial.counts)
