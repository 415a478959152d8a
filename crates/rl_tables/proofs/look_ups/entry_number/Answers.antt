use Rattle.rl_tables.proofs.Shifts.{bit-step, bit-below, bit-small}
use Rattle.rl_tables.proofs.look_ups.entry_number.Goals as goal

pub loop-condition-preserved-then-asks-condition-ne0 : goal.loop-condition-preserved-then-asks-condition-ne0
loop-condition-preserved-then-asks-condition-ne0 c = record {
  same = bit-step _ _ _ _ _ _ _ _ _ c.in-Some.ensures.cases.0 c.if-asks-condition-ne0.true c.bit_of.ensures.value c.loop-condition.invariant.same;
  below = bit-below _ _ _ c.loop-condition.invariant.below c.bit_of.ensures.small;
  small = bit-small _ _ _ _ c.in-Some.ensures.cases.0 c.loop-condition.invariant.small;
}
