use Rattle.rl_build.specs.Adds.{AddsAll}
use Rattle.rl_build.proofs.counting.add_sets.Given as goal

abbrev pub invariant-loop-set : goal.invariant-loop-set
invariant-loop-set l = AddsAll l.initial.sets.items l.yielded l.sets.items l.added
