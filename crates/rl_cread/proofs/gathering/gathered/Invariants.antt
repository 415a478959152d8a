use Rattle.std.proofs.Common.{◌≡◌}
use Rattle.std.specs.Vec.Iter.{into_iter_items}
use Rattle.rl_cread.specs.Gathering.{filled}
use Rattle.rl_cread.proofs.gathering.gathered.Given as goal

abbrev pub invariant-loop-one : goal.invariant-loop-one
invariant-loop-one l = filled (into_iter_items l.one-iterator) l.raw ≡ filled l.fn.said.items l.initial.raw
