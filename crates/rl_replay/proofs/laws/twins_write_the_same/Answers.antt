use Rattle.rl_replay.proofs.Twins.{written_same}
use Rattle.rl_replay.proofs.laws.twins_write_the_same.Goals as goal

pub returns : goal.returns
returns c = λ m w rename stands twin names settings script. written_same m w rename _ twin names settings script
