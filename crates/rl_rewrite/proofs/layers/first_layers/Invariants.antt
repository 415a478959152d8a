use Rattle.std.proofs.Common.{◌≡◌, ◌+◌, ◌≤◌, ◌++◌, length, drop}
use Rattle.rl_rewrite.specs.Steps.{AreFew}
use Rattle.rl_rewrite.specs.Walk as w
use Rattle.rl_rewrite.proofs.layers.first_layers.Given as goal

abbrev pub invariant-loop-p : goal.invariant-loop-p
invariant-loop-p l = (length l.layers.items ≡ l.p-index) × (l.counts.stamp ≤ l.initial.counts.stamp + l.p-index) × AreFew l.counts
    × ((l.layers.items ++ (w.first_layers (drop l.p-index l.puts) l.counts).0, (w.first_layers (drop l.p-index l.puts) l.counts).1) ≡ w.first_layers l.puts l.initial.counts)
