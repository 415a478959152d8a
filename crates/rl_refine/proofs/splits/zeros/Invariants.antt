use Rattle.rl_refine.specs.Splits.{AreZeros}
use Rattle.rl_refine.proofs.splits.zeros.Given as goal

abbrev pub invariant-loop-state : goal.invariant-loop-state
invariant-loop-state l = AreZeros l.numbers.items l._state
