use Rattle.rl_labels.proofs.Survivors.{survivors_agree}
use Rattle.rl_labels.proofs.laws.survivors_agree.Goals as goal

pub returns : goal.returns
returns c = survivors_agree
