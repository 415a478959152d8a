use Rattle.rl_leaves.proofs.SetForms.{sets_have}
use Rattle.rl_leaves.proofs.laws.sets_have_their_keys.Goals as goal

pub returns : goal.returns
returns c = sets_have
