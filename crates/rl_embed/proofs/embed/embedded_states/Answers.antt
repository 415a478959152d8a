use Rattle.std.proofs.Common.{length, refl, sym, ◌∙◌, arith, add-one}
use Rattle.rl_fsm.specs.Graphs.{fsm_auto}
use Rattle.rl_embed.specs.Changed.{embedded_state}
use Rattle.rl_embed.proofs.ChangedLaws.{changed_more}
use Rattle.rl_embed.proofs.embed.embedded_states.Goals as goal

pub loop-number-preserved : goal.loop-number-preserved
loop-number-preserved c =
    let e = c.args.e.now in
    rw c.in_ok-push.ensures (changed_more (embedded_state e.how (fsm_auto e.machine.now) e.label.now) c.loop-number.states.items e.machine.now.states c.loop-number.number _ c.state_of-state.result.now c.in_ok-changed.changed c.state_of-state.ensures (add-one _) c.in_ok-changed.ensures ∙ c.loop-number.invariant)
