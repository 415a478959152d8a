use Rattle.std.proofs.Common.{subst, sym, List}
use Rattle.rl_fsm.specs.declared.state.State.{State}
use Rattle.rl_fsm.specs.Graphs.{fsm_auto}
use Rattle.rl_fsm.specs.Sound.{IsSound}
use Rattle.rl_embed.specs.Marked.{marked_state}
use Rattle.rl_embed.proofs.ChangedLaws.{changed_sound}
use Rattle.rl_embed.proofs.MarkLaws.{marked_keeps}
use Rattle.rl_embed.proofs.mark.marked.Goals as goal

pub with_states-requires : goal.with_states-requires
with_states-requires c =
    let a = c.args.a.now in
    let f = marked_state c.args.class c.args.kind c.args.stamp (fsm_auto a) in
    subst (λ (ss : List State). IsSound (record { start = a.start; states = ss })) (sym c.in_ok-states.ensures.states)
    (changed_sound f (marked_keeps c.args.class c.args.kind c.args.stamp (fsm_auto a)) a c.in_ok-states.ensures.sound)
