use Rattle.std.proofs.Common.{sym, subst, true, List}
use Rattle.rl_automata.specs.Auto.{point_auto}
use Rattle.rl_fsm.specs.declared.state.State.{State}
use Rattle.rl_fsm.specs.Builds.{Builds}
use Rattle.rl_fsm.proofs.MadeLaws.{point_builds}
use Rattle.rl_fsm.proofs.fsm.Fsm.of_null.Goals as goal

pub returns : goal.returns
returns c k h = subst (λ (ss : List State). Builds (point_auto true) (record { start = 0; states = ss })) (sym c.in_ok-states.ensures) (point_builds true)
