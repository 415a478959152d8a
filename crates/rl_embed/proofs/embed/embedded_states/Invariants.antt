use Rattle.std.proofs.Common.{◌≡◌, ◌++◌, drop}
use Rattle.rl_fsm.specs.Graphs.{fsm_auto}
use Rattle.rl_embed.specs.Changed.{embedded_state, changed_from}
use Rattle.rl_embed.proofs.embed.embedded_states.Given as goal

abbrev pub invariant-loop-number : goal.invariant-loop-number
invariant-loop-number l =
    l.states.items ++ changed_from (embedded_state l.e.how (fsm_auto l.e.machine.now) l.e.label.now) l.number (drop l.number l.e.machine.now.states)
    ≡ changed_from (embedded_state l.e.how (fsm_auto l.e.machine.now) l.e.label.now) 0 l.e.machine.now.states
