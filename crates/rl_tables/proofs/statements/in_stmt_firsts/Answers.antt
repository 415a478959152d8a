use Rattle.std.proofs.Common.{rules, arith, below_more}
use Rattle.rl_arrays.specs.Sizes.{statements_of}
use Rattle.rl_arrays.proofs.Laws.{sum-more, no_sum}
use Rattle.rl_tables.proofs.statements.in_stmt_firsts.Goals as goal

pub loop-k-init : goal.loop-k-init
loop-k-init c = (no_sum _, search rules, λ k lt. absurd (omega arith))

pub loop-k-preserved : goal.loop-k-preserved
loop-k-preserved c = (rw (sum-more (statements_of c.args.a.now) c.loop-k.k) cc, c.longer-place.ensures.small, below_more _ _ c.loop-k.invariant.2 (c.is_first.ensures.0 (search rules)))
