use Rattle.std.proofs.Common.{subst, sym, List}
use Rattle.rl_fsm.specs.declared.state.State.{State}
use Rattle.rl_fsm.specs.Graphs.{fsm_auto}
use Rattle.rl_fsm.specs.Sound.{IsSound}
use Rattle.rl_embed.specs.Changed.{embedded_state}
use Rattle.rl_embed.proofs.ChangedLaws.{changed_sound}
use Rattle.rl_embed.proofs.EmbedLaws.{embedded_keeps}
use Rattle.rl_embed.proofs.embed.embedded.Goals as goal

pub with_states-requires : goal.with_states-requires
with_states-requires c =
    let a = c.args.a.now in
    let A = fsm_auto a in
    subst (λ (ss : List State). IsSound (record { start = a.start; states = ss })) (sym c.in_ok-states.ensures.states)
    (changed_sound (embedded_state c.args.how A c.args.label.now) (embedded_keeps c.args.how A c.args.label.now) a c.in_ok-states.ensures.sound)
