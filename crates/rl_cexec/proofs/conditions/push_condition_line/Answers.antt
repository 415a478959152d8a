use Rattle.rl_cexec.specs.Texts.{condition_line}
use Rattle.rl_cexec.proofs.conditions.push_condition_line.Goals as goal

pub returns : goal.returns
unfolding condition_line
returns c = c.push_asked.ensures
