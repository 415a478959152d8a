use Rattle.std.proofs.Common.{◌≡◌, take}
use Rattle.rl_automata.specs.Auto.{steps_of}
use Rattle.rl_fsm.specs.Graphs.{fsm_auto}
use Rattle.rl_ops.proofs.all.steps_of.Given as goal

abbrev pub invariant-loop-i : goal.invariant-loop-i
invariant-loop-i l = l.moves.items ≡ steps_of (fsm_auto l.m) l.letter (take l.i-index l.states)
