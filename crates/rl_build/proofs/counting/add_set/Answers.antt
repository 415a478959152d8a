use Rattle.std.proofs.Common.{refl}
use Rattle.rl_build.proofs.CellLaws.{adds_there}
use Rattle.rl_build.proofs.counting.add_set.Goals as goal

pub returns-then-has_set : goal.returns-then-has_set
returns-then-has_set c = adds_there c.args.sets.now.items c.args.set (rw (c.as_slice.ensures, c.deref.ensures.value) at (c.if-has_set.ensures refl))
