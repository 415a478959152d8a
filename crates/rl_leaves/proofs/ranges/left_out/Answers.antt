use Rattle.std.proofs.Common.{arith}
use Rattle.rl_leaves.proofs.PutLaws.{gap_turn, gap_ends}
use Rattle.rl_leaves.proofs.ranges.left_out.Goals as goal

pub loop-range-preserved : goal.loop-range-preserved
loop-range-preserved c =
    gap_turn _ _ _ _ _ c.args.behind.0 c.args.ranges.now c.loop-range.range-index c.range-item.result _ (omega (arith, c.loop-range-test.true))
    c.range-item.is c.end_of-last.ensures c.gap_before.ensures c.in_ok-close.ensures c.loop-range.invariant

pub returns : goal.returns
returns c =
    gap_ends _ _ _ _ c.args.behind.0 c.args.ranges.now c.loop-range.range-index _ (omega (arith, c.loop-range-test.false)) c.last_gap.ensures
    c.in_ok-close-2.ensures c.loop-range.invariant
