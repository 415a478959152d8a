use Rattle.std.proofs.Common.{take}
use Rattle.rl_classes.proofs.ClassLaws.{Gathers}
use Rattle.rl_classes.proofs.classes.classes_of.Given as goal

abbrev pub invariant-loop-piece : goal.invariant-loop-piece
invariant-loop-piece l = Gathers l.table.keys l.classes.items l.numbered.items (take l.piece-index l.pieces)
