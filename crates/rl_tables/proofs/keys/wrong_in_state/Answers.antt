use Rattle.rl_tables.proofs.KeyLaws.{state_wrong}
use Rattle.rl_tables.proofs.keys.wrong_in_state.Goals as goal

pub returns-in-Some : goal.returns-in-Some
returns-in-Some c = rw c.lesser.ensures (state_wrong c.args.a.now c.args.s c.wrong_single-single.result c.wrong_end.result c.wrong_single-single.ensures c.wrong_end.ensures)
