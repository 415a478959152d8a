use Rattle.rl_labels.proofs.Survivors.{cut_gives_survivors}
use Rattle.rl_labels.proofs.laws.cut_gives_survivors.Goals as goal

pub returns : goal.returns
returns c = cut_gives_survivors
