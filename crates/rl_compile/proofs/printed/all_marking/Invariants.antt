use Rattle.std.proofs.Common.{◌≡◌, ◌++◌, map, length, reverse}
use Rattle.rl_printed.specs.Printed.{marking}
use Rattle.rl_compile.proofs.printed.all_marking.Given as goal

abbrev pub invariant-loop-spec : goal.invariant-loop-spec
invariant-loop-spec l = l.found.items ++ reverse (map (marking l.marked) l.rest) ≡ reverse (map (marking l.marked) l.initial.rest)

abbrev pub decreases-loop-spec : goal.decreases-loop-spec
decreases-loop-spec l = length l.rest
