use Rattle.std.proofs.Common.{◌<◌, ◌++◌, length, arith, sym, ap, ◌∙◌}
use Rattle.rl_labels.specs.Carries.{actions_of}
use Rattle.rl_labels.proofs.Gathered.{joined_more}
use Rattle.rl_labels.proofs.carry.all_stamps.Goals as goal

pub loop-part-preserved : goal.loop-part-preserved
loop-part-preserved c =
    let lt : c.loop-part.part-index < length c.args.parts.now = omega arith in
    c.in_ok-extend.ensures ∙ (λ i. c.loop-part.invariant i ++ (c.items.ensures.members ∙ ap actions_of c.part-item.is) i)
    ∙ sym (joined_more actions_of c.args.parts.now c.loop-part.part-index c.part-item.result lt)
