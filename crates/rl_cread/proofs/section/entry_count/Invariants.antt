use Rattle.std.proofs.Common.{ℕ, ◌<◌, map}
use Rattle.std.specs.Prelude.{IsSomeAnd, slice_get}
use Rattle.rl_cread.specs.Lines.{IsEntryLine}
use Rattle.rl_cread.proofs.section.entry_count.Given as goal

abbrev pub invariant-loop-i : goal.invariant-loop-i
invariant-loop-i l = (k : ℕ) → k < l.i → IsSomeAnd (slice_get (map (λ line. line.now) l.lines) k) (IsEntryLine l.name)
