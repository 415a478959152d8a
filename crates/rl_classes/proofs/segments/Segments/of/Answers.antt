use Rattle.rl_classes.proofs.SegmentLaws.{classes_are, searchable}
use Rattle.rl_classes.proofs.segments.Segments.of.Goals as goal

pub invariant_of-result : goal.invariant_of-result
invariant_of-result c = searchable c.args.sets.now c.args.alphabet c.in_ok-told.told c.in_ok-cut.cut.items c.in_ok-sorted.sorted c.in_ok-told.ensures c.in_ok-cut.ensures (rw c.deref.ensures.value at c.in_ok-sorted.ensures) c.requires

pub returns : goal.returns
returns c = classes_are c.args.sets.now c.args.alphabet c.in_ok-told.told c.in_ok-cut.cut.items c.in_ok-sorted.sorted c.in_ok-told.ensures c.in_ok-cut.ensures (rw c.deref.ensures.value at c.in_ok-sorted.ensures)
