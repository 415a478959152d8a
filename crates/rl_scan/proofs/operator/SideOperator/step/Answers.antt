use Rattle.std.proofs.Common.{◌∙◌}
use Rattle.rl_scan.specs.Beside.{steps_at, settled, is_jammed}
use Rattle.rl_scan.proofs.operator.SideOperator.step.Goals as goal

pub returns : goal.returns
returns c =
    let ms = c.args.self.now.machines.now in
    let l = c.args.letter in (
      c.in_ok-step.ensures.step ∙ (λ i. settled (steps_at ms (c.states.ensures i) l)),
      c.in_ok-step.ensures.cycle ∙ (λ i. is_jammed (steps_at ms (c.states.ensures i) l)),
    )
