use Rattle.std.proofs.Common.{rules, arith, below_more}
use Rattle.rl_arrays.specs.Sizes.{uses_of}
use Rattle.rl_arrays.proofs.Laws.{sum-more, no_sum}
use Rattle.rl_tables.proofs.offsets.in_cell_offsets.Goals as goal

pub loop-s-init : goal.loop-s-init
loop-s-init c = (no_sum _, search rules, λ k lt. absurd (omega arith))

pub loop-s-preserved : goal.loop-s-preserved
loop-s-preserved c = (rw (sum-more (uses_of c.args.a.now) c.loop-s.s) cc, c.longer-place.ensures.small, below_more _ _ c.loop-s.invariant.2 (c.is_cell_offset.ensures.0 (search rules)))
