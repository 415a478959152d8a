use Rattle.std.proofs.Common.{◌≤◌, length, take}
use Rattle.rl_rewrite.specs.Measures.{AreSizes}
use Rattle.rl_rewrite.proofs.sizes.table.Given as goal

abbrev pub invariant-loop-i : goal.invariant-loop-i
invariant-loop-i l = (l.i ≤ length l.definitions) × AreSizes l.alphabet (take l.i l.definitions) l.sizes
