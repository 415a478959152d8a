use Rattle.rl_refine.specs.Links.{AreLinked}
use Rattle.rl_refine.proofs.SplitLaws.{AreSplitBelow}
use Rattle.rl_refine.proofs.splits.split.Given as goal

abbrev pub invariant-loop-state : goal.invariant-loop-state
invariant-loop-state l = record {
  below : AreSplitBelow l.machine l.classes l.firsts.items l.state;
  linked : AreLinked l.machine l.classes l.later.items l.state;
}
