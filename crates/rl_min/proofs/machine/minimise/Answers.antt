use Rattle.rl_min.proofs.FewestLaws.{made_least}
use Rattle.rl_min.proofs.machine.minimise.Goals as goal

pub returns : goal.returns
returns c = made_least c.args.root.now c.in_ok-machine.machine c.in_ok-least.least c.in_ok-machine.ensures c.in_ok-least.ensures.sound c.in_ok-least.ensures.merged
