use Rattle.std.proofs.Common.{◌≡◌, ◌≤◌, length, drop}
use Rattle.rl_rewrite.specs.Measures.{IsCut, all_negated_size}
use Rattle.rl_rewrite.proofs.sizes.all_negated_of.Given as goal

abbrev pub invariant-loop-i : goal.invariant-loop-i
invariant-loop-i l = (l.i ≤ length l.ns) × IsCut l.s × (l.s ≡ all_negated_size l.initial.s (drop l.i l.ns))

abbrev pub decreases-loop-i : goal.decreases-loop-i
decreases-loop-i l = l.i
