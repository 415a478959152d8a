use Rattle.rl_ops.proofs.StandsLaws.{if_ok_to, star_stands}
use Rattle.rl_ops.proofs.rounds.star.Goals as goal

pub returns-clause-stands : goal.returns-clause-stands
returns-clause-stands c = if_ok_to _ _ c.explore.result (λ m z. star_stands c.args.a.now c.args.base m z) c.explore.ensures.builds
