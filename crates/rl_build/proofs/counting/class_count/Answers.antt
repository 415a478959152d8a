use Rattle.std.proofs.Common.{sym, subst}
use Rattle.rl_build.specs.Cells.{AreCounted}
use Rattle.rl_build.proofs.CellLaws.{classes_counted}
use Rattle.rl_build.proofs.counting.class_count.Goals as goal

pub returns-clause-count : goal.returns-clause-count
returns-clause-count c = subst (AreCounted c.args.alphabet c.args.sets.now) (sym c.count.ensures) (classes_counted c.args.sets.now c.args.alphabet c.in_ok-segments.segments c.in_ok-segments.ensures)
