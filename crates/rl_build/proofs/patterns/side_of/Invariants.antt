use Rattle.std.proofs.Common.{◌≡◌, ◌≤◌, List, map, flat_map}
use Rattle.rl_automata.specs.Nodes.{Node}
use Rattle.rl_automata.specs.Refused.{sets_in, conditions_in}
use Rattle.rl_classes.specs.Sets.{range_count}
use Rattle.rl_build.specs.declared.built.Built.{Built}
use Rattle.rl_build.specs.Cells.{AreCells}
use Rattle.rl_build.specs.Chains.{AreBuilt}
use Rattle.rl_build.specs.Patterns.{ranges_together}
use Rattle.rl_build.proofs.patterns.side_of.Given as goal

abbrev pub invariant-loop-pattern : goal.invariant-loop-pattern
invariant-loop-pattern l =
    (l.machines.items ≡ map (λ (b : Built). b.machine) l.yielded)
    × (range_count l.cells.sets.items ≤ ranges_together l.yielded)
    × ((ts : List Node) → AreBuilt l.alphabet ts l.yielded → AreCells l.alphabet (flat_map sets_in ts) (flat_map conditions_in ts) l.cells)
