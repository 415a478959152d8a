use Rattle.rl_ops.proofs.StandsLaws.{if_ok_to, union_stands}
use Rattle.rl_ops.proofs.pair.or.Goals as goal

pub returns-clause-stands : goal.returns-clause-stands
returns-clause-stands c = if_ok_to _ _ c.explore.result (λ m z. union_stands c.args.a.now c.args.b.now m z) c.explore.ensures.builds
