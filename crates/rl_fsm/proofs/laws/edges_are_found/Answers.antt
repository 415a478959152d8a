use Rattle.rl_fsm.proofs.Walks.{finds_each}
use Rattle.rl_fsm.proofs.laws.edges_are_found.Goals as goal

pub returns : goal.returns
returns c m h = finds_each m h
