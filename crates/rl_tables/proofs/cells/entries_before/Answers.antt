use Rattle.std.proofs.Common.{rules}
use Rattle.rl_arrays.specs.Sizes.{entries_of}
use Rattle.rl_arrays.proofs.Laws.{sum-more, no_sum}
use Rattle.rl_tables.proofs.cells.entries_before.Goals as goal

pub loop-c-init : goal.loop-c-init
loop-c-init c = (no_sum _, search rules)

pub loop-c-preserved : goal.loop-c-preserved
loop-c-preserved c = (rw (sum-more (entries_of c.args.a.now) c.loop-c.c) cc, c.longer-place.ensures.small)
