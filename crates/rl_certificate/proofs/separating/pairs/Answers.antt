use Rattle.std.proofs.Common.{subst, sym, arith}
use Rattle.rl_certificate.specs.Founds.{ArePairs}
use Rattle.rl_certificate.proofs.PairLaws.{no_pairs}
use Rattle.rl_certificate.proofs.separating.pairs.Goals as goal

pub loop-low-init : goal.loop-low-init
loop-low-init c = record {
  first = omega arith;
  pairs = subst (λ apart. ArePairs c.args.min.now apart 1 2) (sym c.new-apart.ensures.items)
      (no_pairs c.args.min.now c.states-low-end.ensures.minimal.counts.states);
}
