use Rattle.std.proofs.Common.{arith}
use Rattle.std.proofs.lemmas.Result.{err_from_is_err_and}
use Rattle.rl_names.proofs.LeafLaws.{leaves_stop}
use Rattle.rl_names.proofs.checks.check_leaves.Goals as goal

pub returns-in_err-step_leaves : goal.returns-in_err-step_leaves
returns-in_err-step_leaves c =
    let p = err_from_is_err_and c.from_residual-in_err-step_leaves.result c.from_residual-in_err-step_leaves.ensures.1 in
    rw (p.1, p.2)
    (leaves_stop c.args.steps.now c.loop-step.step-index c.step-item.result c.in_err-step_leaves.field-0.0 (omega arith) c.step-item.is c.loop-step.invariant c.in_err-step_leaves.ensures)
