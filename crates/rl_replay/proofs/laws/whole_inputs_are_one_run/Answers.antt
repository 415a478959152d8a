use Rattle.rl_replay.proofs.Whole.{one_run}
use Rattle.rl_replay.proofs.laws.whole_inputs_are_one_run.Goals as goal

pub returns : goal.returns
returns c = λ names m settings s entry bytes. one_run names m settings s entry bytes
