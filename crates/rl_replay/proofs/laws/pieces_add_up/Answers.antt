use Rattle.rl_replay.proofs.Whole.{whole}
use Rattle.rl_replay.proofs.laws.pieces_add_up.Goals as goal

pub returns : goal.returns
returns c = λ names m settings script s admitted. whole names m settings script s admitted
