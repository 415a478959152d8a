use Rattle.std.proofs.Common.{◌≡◌}
use Rattle.std.specs.Int.{int_gap}
use Rattle.rl_refine.proofs.CoverLaws.{IsCoveredBelow}
use Rattle.rl_refine.proofs.cover.is_covered.Given as goal

abbrev pub invariant-pieces : goal.invariant-pieces
invariant-pieces l = record {
  last : l.last.0 ≡ l.e.range.hi;
  below : IsCoveredBelow l.classes l.e l.edges l.key.0;
}

abbrev pub decreases-pieces : goal.decreases-pieces
decreases-pieces l = int_gap l.key.0 l.last.0
