use Rattle.rl_tables.proofs.KeyLaws.{keys_wrong}
use Rattle.rl_tables.proofs.keys.in_trans_keys.Goals as goal

pub returns : goal.returns
returns c = rw c.lesser.ensures (keys_wrong c.args.a.now c.wrong_key.result c.wrong_closing.result c.wrong_key.ensures c.wrong_closing.ensures)
