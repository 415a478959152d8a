use Rattle.std.proofs.Common.{◌≡◌, ◌++◌, drop}
use Rattle.rl_fsm.specs.Graphs.{fsm_auto}
use Rattle.rl_embed.specs.Changed.{changed_from}
use Rattle.rl_embed.specs.Marked.{marked_state}
use Rattle.rl_embed.proofs.mark.marked_states.Given as goal

abbrev pub invariant-loop-number : goal.invariant-loop-number
invariant-loop-number l =
    l.states.items ++ changed_from (marked_state l.m.class l.m.kind l.m.stamp (fsm_auto l.m.machine.now)) l.number (drop l.number l.m.machine.now.states)
    ≡ changed_from (marked_state l.m.class l.m.kind l.m.stamp (fsm_auto l.m.machine.now)) 0 l.m.machine.now.states
