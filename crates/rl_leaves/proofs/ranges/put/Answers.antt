use Rattle.std.proofs.Common.{arith}
use Rattle.rl_leaves.proofs.PutLaws.{put_turn, put_ends}
use Rattle.rl_leaves.proofs.ranges.put.Goals as goal

pub loop-other-preserved : goal.loop-other-preserved
loop-other-preserved c =
    put_turn _ _ _ _ _ c.args.ranges.now c.loop-other.other-index c.other-item.result (omega (arith, c.loop-other-test.true)) c.other-item.is
    c.in_ok-held.ensures.value c.in_ok-held.ensures.pushed c.loop-other.invariant

pub returns : goal.returns
returns c =
    put_ends _ _ _ _ c.args.ranges.now c.loop-other.other-index (omega (arith, c.loop-other-test.false)) c.in_ok-close.ensures c.loop-other.invariant
