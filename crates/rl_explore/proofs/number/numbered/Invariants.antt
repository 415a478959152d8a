use Rattle.std.proofs.Common.{◌≡◌, ◌≤◌, ◌++◌, length}
use Rattle.std.specs.Vec.Iter.{into_iter_items}
use Rattle.rl_explore.specs.Numbers.{AreNumbered}
use Rattle.rl_explore.proofs.number.numbered.Given as goal

abbrev pub invariant-loop-f : goal.invariant-loop-f
invariant-loop-f g l = record {
  numbered : AreNumbered l.initial.names l.names l.yielded l.edges.items;
  few : length l.names ≤ l.fn.room;
  whole : l.fn.found.items ≡ l.yielded ++ into_iter_items l.f-iterator;
}
