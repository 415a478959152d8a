use Rattle.rl_replay.proofs.Projection.{projected}
use Rattle.rl_replay.proofs.laws.sessions_are_apart.Goals as goal

pub returns : goal.returns
returns c = λ names m settings script s. projected names m settings script s
