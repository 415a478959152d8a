use Rattle.rl_labels.proofs.Survivors.{survivors_lead_alike}
use Rattle.rl_labels.proofs.laws.survivors_lead_alike.Goals as goal

pub returns : goal.returns
returns c = survivors_lead_alike
