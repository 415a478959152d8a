use Rattle.std.proofs.Common.{◌≡◌, ◌+◌, ◌≤◌, drop}
use Rattle.rl_rewrite.specs.Steps.{placed_of, AreFew, all_repeated_on, all_stamps}
use Rattle.rl_rewrite.proofs.repeats.repeat_all.Given as goal

abbrev pub invariant-loop-r : goal.invariant-loop-r
invariant-loop-r l =
    (l.counts.stamp + all_stamps (drop l.r-index l.repetitions) ≤ l.initial.counts.stamp + all_stamps l.repetitions)
    × AreFew l.counts
    × (all_repeated_on (drop l.r-index l.repetitions) l.at (placed_of l.x) l.counts ≡ all_repeated_on l.repetitions l.at (placed_of l.initial.x) l.initial.counts)
