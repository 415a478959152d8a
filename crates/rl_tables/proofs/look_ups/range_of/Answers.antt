use Rattle.std.proofs.Common.{arith}
use Rattle.rl_tables.proofs.Shifts.{range-step}
use Rattle.rl_tables.proofs.look_ups.range_of.Goals as goal

pub loop-low-preserved : goal.loop-low-preserved
loop-low-preserved c = record {
  same = range-step _ _ _ _ _ _ _ _ c.in-Some.ensures.cases.0 c.in-Some-split_first.ensures.cases.0 c.if-holds.ensures c.loop-low.invariant.same;
  few = omega (arith, c.in-Some.ensures.cases.1, c.in-Some-split_first.ensures.cases.1, c.loop-low.invariant.few);
}
