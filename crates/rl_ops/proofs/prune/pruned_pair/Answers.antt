use Rattle.std.proofs.Common.{◌≡◌, sym, subst}
use Rattle.std.proofs.lemmas.Result.{err_from_is_err_and}
use Rattle.rl_automata.specs.Auto.{both_auto, both_jams}
use Rattle.rl_fsm.specs.Graphs.{fsm_auto}
use Rattle.rl_explore.specs.declared.fault.BuildFault.{BuildFault}
use Rattle.rl_explore.specs.declared.fault.BuildFault.TheVariants.{Memory}
use Rattle.rl_explore.specs.Numbers.{IsCause}
use Rattle.rl_ops.specs.Tests.{test_of}
use Rattle.rl_ops.proofs.PruneLaws.{raw_no_more}
use Rattle.rl_ops.proofs.prune.pruned_pair.Goals as goal

pub returns-in_err-machine-clause-refused : goal.returns-in_err-machine-clause-refused
returns-in_err-machine-clause-refused c =
    let a = c.args.pair.now.a.now in
    let b = c.args.pair.now.b.now in
    let test = test_of c.args.pair.now.test in
    let p = err_from_is_err_and c.from_residual-in_err-machine.result c.from_residual-in_err-machine.ensures.1 in
    let z = c.in_ok-raw.ensures in
    let memory : c.in_err-machine.field-0.0 ≡ Memory = c.in_err-machine.ensures.refused (raw_no_more a b c.in_ok-raw.raw test 32767 z.builds z.accepted.0) (raw_no_more a b c.in_ok-raw.raw test c.args.most z.builds z.accepted.1) in
    rw (p.1, p.2) (subst (λ (e : BuildFault). IsCause (both_auto (fsm_auto a) (fsm_auto b) test) (both_jams (fsm_auto a) (fsm_auto b)) c.args.most e) (sym memory) tt)
