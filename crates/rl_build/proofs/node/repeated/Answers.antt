use Rattle.rl_build.proofs.NodeLaws.{star_made}
use Rattle.rl_build.proofs.node.repeated.Goals as goal

pub returns : goal.returns
returns c = λ t x. star_made c.args.a.now c.args.base c.args.most c.star.result t x c.star.ensures.stands c.star.ensures.accepted c.star.ensures.refused
