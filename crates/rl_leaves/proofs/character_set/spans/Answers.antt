use Rattle.rl_leaves.proofs.SetLaws.{spans_step, spans_end}
use Rattle.rl_leaves.proofs.character_set.spans.Goals as goal

pub spans-preserved : goal.spans-preserved
spans-preserved c =
    spans_step _ _ _ _ _ _ _ _ c.in-Some.ensures.cases.0 c.span_at.ensures c.behind_span-rest.ensures c.in_ok-push.ensures c.spans.invariant

pub returns : goal.returns
returns c = spans_end _ _ _ c.in_default.ensures.cases c.spans.invariant
