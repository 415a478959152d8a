use Rattle.rl_tables.proofs.TargetLaws.{no_states_fit, states_fit}
use Rattle.rl_tables.proofs.targets.wrong_fit.Goals as goal

pub loop-s-init : goal.loop-s-init
loop-s-init c = no_states_fit c.args.a.now

pub loop-s-preserved : goal.loop-s-preserved
loop-s-preserved c = rw c.lesser-wrong.ensures (states_fit c.args.a.now c.loop-s.s c.loop-s.wrong c.wrong_in_state.result c.loop-s.invariant c.wrong_in_state.ensures)
