use Rattle.std.proofs.Common.{length}
use Rattle.rl_compile.proofs.TableLaws.{AreBefore}
use Rattle.rl_compile.proofs.printed.all_tables.Given as goal

abbrev pub invariant-loop-spec : goal.invariant-loop-spec
invariant-loop-spec l = AreBefore l.specs l.rest l.found.items

abbrev pub decreases-loop-spec : goal.decreases-loop-spec
decreases-loop-spec l = length l.rest
