use Rattle.rl_leaves.proofs.SingleLaws.{singles_have}
use Rattle.rl_leaves.proofs.laws.characters_have_their_keys.Goals as goal

pub returns : goal.returns
returns c = singles_have
