use Rattle.std.proofs.Common.{drop}
use Rattle.rl_certificate.specs.Covers.{HasLike}
use Rattle.rl_certificate.proofs.cover.like_until.Given as goal

abbrev pub invariant-loop-f : goal.invariant-loop-f
invariant-loop-f l = HasLike l.e l.edges l.key.0 → HasLike l.e (drop l.f-index l.edges) l.key.0
