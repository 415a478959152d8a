use Rattle.rl_refine.specs.Splits.{AreSplit, AreCoarse}
use Rattle.rl_refine.proofs.ListLaws.{room_from}
use Rattle.rl_refine.proofs.alike.classes.Given as goal

abbrev pub invariant-rounds : goal.invariant-rounds
invariant-rounds l = record {
  coarse : AreCoarse l.machine l.classes.items;
  split : AreSplit l.machine l.classes.items l.parts.items;
}

abbrev pub decreases-rounds : goal.decreases-rounds
decreases-rounds l = room_from 0 l.classes.items
