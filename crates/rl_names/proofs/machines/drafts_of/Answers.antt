use Rattle.std.proofs.Common.{ℕ, ◌+◌, List, drop, ap, ◌∙◌, arith}
use Rattle.std.proofs.lemmas.Result.{err_from_is_err_and}
use Rattle.rl_names.specs.Answers.{each}
use Rattle.rl_names.specs.Drafts.{draft_of}
use Rattle.rl_names.specs.TableForms.{own_in, pointed}
use Rattle.rl_names.proofs.ResultLaws.{behind, goes_on, stops}
use Rattle.rl_names.proofs.machines.drafts_of.Goals as goal

pub loop-machine-preserved : goal.loop-machine-preserved
loop-machine-preserved c =
    let read = λ (m : List ℕ). draft_of (pointed (own_in m c.args.groups.now)) m in
    ap (λ z. behind z (each read (drop (c.loop-machine.machine-index + 1) c.args.machines.now))) c.in_ok-push.ensures
    ∙ goes_on read c.args.machines.now (each read c.args.machines.now) c.loop-machine.found c.loop-machine.machine-index c.machine-item.result c.in_ok-draft.draft (omega arith) c.machine-item.is
    c.in_ok-draft.ensures c.loop-machine.invariant

pub returns-in_err-draft : goal.returns-in_err-draft
returns-in_err-draft c =
    let read = λ (m : List ℕ). draft_of (pointed (own_in m c.args.groups.now)) m in
    let p = err_from_is_err_and c.from_residual.result c.from_residual.ensures.1 in
    rw (p.1, p.2)
    (stops read c.args.machines.now (each read c.args.machines.now) c.loop-machine.found c.loop-machine.machine-index c.machine-item.result c.in_err-draft.field-0.0 (omega arith) c.machine-item.is
    c.in_err-draft.ensures c.loop-machine.invariant)
