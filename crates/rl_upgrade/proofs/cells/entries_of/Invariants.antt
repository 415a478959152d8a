use Rattle.std.proofs.Common.{◌≡◌, ◌++◌, length, map}
use Rattle.std.specs.List.{zip}
use Rattle.rl_arrays.specs.Words.{natural}
use Rattle.rl_upgrade.specs.Values.{pair_of}
use Rattle.rl_upgrade.proofs.cells.entries_of.Given as goal

-- what is there, and what the targets and lists that are left give
abbrev pub invariant-loop-target : goal.invariant-loop-target
invariant-loop-target l =
    map pair_of l.entries.items ++ zip (map natural l.more_targets) (map natural l.more_lists)
    ≡ zip (map natural l.targets) (map natural l.lists)

abbrev pub decreases-loop-target : goal.decreases-loop-target
decreases-loop-target l = length l.more_targets
