use Rattle.std.proofs.Common.{arith}
use Rattle.std.proofs.lemmas.Result.{err_from_is_err_and}
use Rattle.rl_names.proofs.NamesChecked.{AreChecked, goes_on, stops, ends}
use Rattle.rl_names.proofs.names.check_names.Goals as goal

pub loop-step-preserved : goal.loop-step-preserved
loop-step-preserved c =
    let h : AreChecked c.args.steps.now c.loop-step.step-index c.loop-step.tables = record { tables = c.loop-step.invariant.tables; counts = c.loop-step.invariant.counts; due = c.loop-step.invariant.due } in
    let r = goes_on c.args.steps.now c.loop-step.step-index c.step-item.result c.loop-step.tables (omega arith) c.step-item.is h c.check.new.tables c.in_ok-check.ensures in
    record { tables = r.tables; counts = r.counts; due = r.due }

pub returns-in_err-check : goal.returns-in_err-check
returns-in_err-check c =
    let h : AreChecked c.args.steps.now c.loop-step.step-index c.loop-step.tables = record { tables = c.loop-step.invariant.tables; counts = c.loop-step.invariant.counts; due = c.loop-step.invariant.due } in
    let p = err_from_is_err_and c.from_residual.result c.from_residual.ensures.1 in
    rw (p.1, p.2) (stops c.args.steps.now c.loop-step.step-index c.step-item.result c.loop-step.tables (omega arith) c.step-item.is h c.in_err-check.field-0.0 c.in_err-check.ensures)

pub returns : goal.returns
returns c =
    let h : AreChecked c.args.steps.now c.loop-step.step-index c.loop-step.tables = record { tables = c.loop-step.invariant.tables; counts = c.loop-step.invariant.counts; due = c.loop-step.invariant.due } in
    ends c.args.steps.now c.loop-step.step-index c.loop-step.tables (omega arith) h
