use Rattle.rl_certificate.specs.Founds.{ArePairs}
use Rattle.rl_certificate.proofs.separating.add_pairs.Given as goal

abbrev pub invariant-loop-high : goal.invariant-loop-high
invariant-loop-high l = ArePairs l.min l.apart.items l.low l.high
