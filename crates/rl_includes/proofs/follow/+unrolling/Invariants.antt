-- An `include` goes one file deeper.
use Rattle.std.proofs.Common.{◌≡◌, ◌+◌, ◌*◌, length}
use Rattle.std.specs.Prelude.{reverse}
use Rattle.rl_io.specs.Outside.{HasCause}
use Rattle.rl_includes.specs.Unrolling.{Includes, IsFailure}
use Rattle.rl_includes.proofs.FollowLaws.{Walks}
use Rattle.rl_includes.proofs.follow.+unrolling.Given as goal

abbrev pub decreases-enter : goal.decreases-enter
decreases-enter g l = 4 * l.reader.now.left

abbrev pub decreases-include : goal.decreases-include
decreases-include g l = 4 * l.reader.now.left + 1

abbrev pub decreases-take : goal.decreases-take
decreases-take g l = 4 * l.reader.now.left + 2

abbrev pub decreases-follow : goal.decreases-follow
decreases-follow g l = 4 * l.reader.now.left + 3

abbrev pub decreases-follow-loop-item : goal.decreases-follow-loop-item
decreases-follow-loop-item g l = length l.queue

abbrev pub invariant-follow-loop-item : goal.invariant-follow-loop-item
invariant-follow-loop-item g l = record {
  walks : Walks (Includes l.reader.left (g.S.Store.held l.initial.store)) l.reader (reverse l.initial.queue) l.queue l.initial.unrolled l.unrolled l.current;
  same : g.S.Store.held l.store ≡ g.S.Store.held l.initial.store;
  cause : HasCause (g.S.Store.faults l.initial.store) (g.S.Store.faults l.store) (IsFailure l.unrolled.stop);
}
