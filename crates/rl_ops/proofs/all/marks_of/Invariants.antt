use Rattle.std.proofs.Common.{◌≡◌, take}
use Rattle.std.specs.List.{flat_map}
use Rattle.rl_fsm.specs.Graphs.{fsm_auto}
use Rattle.rl_ops.proofs.all.marks_of.Given as goal

abbrev pub invariant-loop-i : goal.invariant-loop-i
invariant-loop-i l = l.marks.items ≡ flat_map (λ t. (fsm_auto l.m).marks t l.kind) (take l.i-index l.states)
