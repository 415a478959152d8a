use Rattle.rl_fsm.proofs.Walks.{reaches_each}
use Rattle.rl_fsm.proofs.laws.numbered_states_are_reached.Goals as goal

pub returns : goal.returns
returns c m h w = reaches_each m h w
