use Rattle.std.proofs.Common.{◌≡◌, take}
use Rattle.std.specs.List.{flat_map}
use Rattle.rl_automata.specs.Auto.{member_steps}
use Rattle.rl_fsm.specs.Graphs.{fsm_auto}
use Rattle.rl_ops.proofs.rounds.all_moves.Given as goal

abbrev pub invariant-loop-i : goal.invariant-loop-i
invariant-loop-i l = l.moves.items ≡ flat_map (member_steps (fsm_auto l.p.a.now) l.p.base l.letter) (take l.i-index l.states)
