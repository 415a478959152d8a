use Rattle.rl_unions.proofs.Regrouping.{grouping}
use Rattle.rl_unions.proofs.laws.grouping_does_not_matter.Goals as goal

pub returns : goal.returns
returns c = grouping
