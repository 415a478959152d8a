use Rattle.std.proofs.Common.{sym, subst, List}
use Rattle.rl_automata.specs.Auto.{set_auto}
use Rattle.rl_fsm.specs.declared.state.State.{State}
use Rattle.rl_fsm.specs.Sound.{IsSound}
use Rattle.rl_fsm.specs.Builds.{Builds}
use Rattle.rl_fsm.proofs.MadeLaws.{set_builds}
use Rattle.rl_fsm.proofs.fsm.Fsm.of_set.Goals as goal

pub invariant_of-result : goal.invariant_of-result
invariant_of-result c =
    let p = c.in_ok-states.ensures in
    subst (λ (ss : List State). IsSound (record { start = 0; states = ss })) (sym p.2) (set_builds c.args.set.now p.0 p.1).sound

pub returns : goal.returns
returns c k h =
    let p = c.in_ok-states.ensures in
    subst (λ (ss : List State). Builds (set_auto c.args.set.now) (record { start = 0; states = ss })) (sym p.2) (set_builds c.args.set.now p.0 p.1)
