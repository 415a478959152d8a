use Rattle.std.proofs.Common.{◌≡◌, take}
use Rattle.std.specs.List.{flat_map}
use Rattle.rl_fsm.specs.Graphs.{fsm_auto}
use Rattle.rl_ops.specs.Rounds.{member_marks}
use Rattle.rl_ops.proofs.rounds.all_marks.Given as goal

abbrev pub invariant-loop-i : goal.invariant-loop-i
invariant-loop-i l = l.marks.items ≡ flat_map (member_marks (fsm_auto l.p.a.now) l.kind) (take l.i-index l.states)
