use Rattle.rl_tables.proofs.TargetLaws.{targets_wrong}
use Rattle.rl_tables.proofs.targets.in_trans_targs.Goals as goal

pub returns : goal.returns
returns c = rw c.lesser.ensures (targets_wrong c.args.a.now c.wrong_fit.result c.wrong_alone.result c.wrong_fit.ensures c.wrong_alone.ensures)
