use Rattle.std.proofs.Common.{ℕ, ◌<◌}
use Rattle.rl_cread.specs.Values.{IsEntryAt}
use Rattle.rl_cread.proofs.values.agree.Given as goal

abbrev pub invariant-loop-i : goal.invariant-loop-i
invariant-loop-i l = (k : ℕ) → k < l.i → IsEntryAt l.raw.entries l.raw.arrays.entry_names l.raw.arrays.entry_states k
