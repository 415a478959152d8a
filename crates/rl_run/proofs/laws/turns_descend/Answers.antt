use Rattle.rl_run.proofs.Descents.{is_descending}
use Rattle.rl_run.proofs.laws.turns_descend.Goals as goal

pub returns : goal.returns
returns c = λ m. is_descending m
