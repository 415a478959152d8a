use Rattle.std.proofs.Common.{◌≡◌, ◌≤◌, drop, length}
use Rattle.rl_automata.specs.Auto.{asked_of}
use Rattle.rl_fsm.specs.Graphs.{fsm_auto}
use Rattle.rl_ops.proofs.all.asked_of.Given as goal

abbrev pub invariant-loop-i : goal.invariant-loop-i
invariant-loop-i l = (l.i ≤ length l.states) × (l.asks ≡ asked_of (fsm_auto l.m) l.at.key (drop l.i l.states))

abbrev pub decreases-loop-i : goal.decreases-loop-i
decreases-loop-i l = l.i
