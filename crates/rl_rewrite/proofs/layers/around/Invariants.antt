use Rattle.std.proofs.Common.{◌≡◌, ◌+◌, ◌≤◌, length, drop}
use Rattle.rl_rewrite.specs.Steps.{placed_of, AreFew}
use Rattle.rl_rewrite.specs.Walk as w
use Rattle.rl_rewrite.proofs.layers.around.Given as goal

abbrev pub invariant-loop-i : goal.invariant-loop-i
invariant-loop-i l = (l.i ≤ length l.puts) × (l.counts.stamp ≤ l.initial.counts.stamp + l.i) × AreFew l.counts
    × (w.around (drop l.i l.puts) (drop l.i l.layers) l.at (placed_of l.x) l.counts ≡ w.around l.puts l.layers l.at (placed_of l.initial.x) l.initial.counts)
