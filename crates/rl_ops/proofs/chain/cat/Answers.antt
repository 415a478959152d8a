use Rattle.rl_ops.proofs.StandsLaws.{if_ok_to, cat_stands}
use Rattle.rl_ops.proofs.chain.cat.Goals as goal

pub returns-clause-stands : goal.returns-clause-stands
returns-clause-stands c = if_ok_to _ _ c.explore.result (λ m z. cat_stands c.args.a.now c.args.b.now m z) c.explore.ensures.builds
