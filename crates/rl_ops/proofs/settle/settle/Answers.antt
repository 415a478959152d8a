use Rattle.std.proofs.Common.{◌∙◌, sym}
use Rattle.rl_ops.proofs.Keeping.{settled_from}
use Rattle.rl_ops.proofs.settle.settle.Goals as goal

pub returns-clause-step : goal.returns-clause-step
returns-clause-step c =
    c.in_ok-step.ensures.step
    ∙ sym (settled_from c.args.lefts.now c.args.rights.now _ _ _ _ _ _ _ c.new-left_to.ensures.items c.new-right_to.ensures.items c.new-parts.ensures.items c.in_ok-keep.ensures.to c.in_ok-keep.ensures.parts c.in_ok-keep-2.ensures.to c.in_ok-keep-2.ensures.parts)
