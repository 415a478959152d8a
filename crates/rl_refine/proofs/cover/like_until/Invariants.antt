use Rattle.std.proofs.Common.{drop}
use Rattle.rl_refine.specs.Covers.{HasLike}
use Rattle.rl_refine.proofs.cover.like_until.Given as goal

abbrev pub invariant-loop-f : goal.invariant-loop-f
invariant-loop-f l = HasLike l.classes l.e l.edges l.key.0 → HasLike l.classes l.e (drop l.f-index l.edges) l.key.0
