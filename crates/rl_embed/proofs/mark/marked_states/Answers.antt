use Rattle.std.proofs.Common.{◌∙◌, add-one}
use Rattle.rl_fsm.specs.Graphs.{fsm_auto}
use Rattle.rl_embed.specs.Marked.{marked_state}
use Rattle.rl_embed.proofs.ChangedLaws.{changed_more}
use Rattle.rl_embed.proofs.mark.marked_states.Goals as goal

pub loop-number-preserved : goal.loop-number-preserved
loop-number-preserved c =
    let m = c.args.m.now in
    rw c.in_ok-push.ensures (changed_more (marked_state m.class m.kind m.stamp (fsm_auto m.machine.now)) c.loop-number.states.items m.machine.now.states c.loop-number.number _ c.state_of-state.result.now c.in_ok-changed.changed c.state_of-state.ensures (add-one _) c.in_ok-changed.ensures ∙ c.loop-number.invariant)
