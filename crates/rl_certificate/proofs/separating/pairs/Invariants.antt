use Rattle.std.proofs.Common.{◌<◌, ◌+◌}
use Rattle.rl_certificate.specs.Founds.{ArePairs}
use Rattle.rl_certificate.proofs.separating.pairs.Given as goal

abbrev pub invariant-loop-low : goal.invariant-loop-low
invariant-loop-low l = record {
  first : 0 < l.low;
  pairs : ArePairs l.min l.apart.items l.low (l.low + 1);
}
