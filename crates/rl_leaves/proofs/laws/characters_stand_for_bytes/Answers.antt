use Rattle.std.proofs.Common.{false}
use Rattle.rl_leaves.proofs.ByteLaws.{bytes_are}
use Rattle.rl_leaves.proofs.laws.characters_stand_for_bytes.Goals as goal

pub returns : goal.returns
returns c = λ bytes. bytes_are false bytes
