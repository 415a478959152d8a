use Rattle.std.proofs.Common.{rules}
use Rattle.rl_arrays.specs.Sizes.{uses_of}
use Rattle.rl_arrays.proofs.Laws.{sum-more, no_sum}
use Rattle.rl_tables.proofs.cells.uses_of_all.Goals as goal

pub loop-s-init : goal.loop-s-init
loop-s-init c = (no_sum _, search rules)

pub loop-s-preserved : goal.loop-s-preserved
loop-s-preserved c = (rw (sum-more (uses_of c.args.a.now) c.loop-s.s) cc, c.longer-place.ensures.small)
