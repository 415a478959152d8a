use Rattle.std.proofs.Common.{arith}
use Rattle.rl_leaves.proofs.PutLaws.{spans_turn, spans_end}
use Rattle.rl_leaves.proofs.ranges.put_spans.Goals as goal

pub loop-span-preserved : goal.loop-span-preserved
loop-span-preserved c =
    spans_turn c.args.alphabet c.args.folds _ _ _ c.args.spans.now c.loop-span.span-index _ (omega (arith, c.loop-span-test.true)) c.in_ok-ranges.ensures
    c.loop-span.invariant

pub returns : goal.returns
returns c =
    spans_end c.args.alphabet c.args.folds _ _ c.args.spans.now c.loop-span.span-index (omega (arith, c.loop-span-test.false)) c.loop-span.invariant
