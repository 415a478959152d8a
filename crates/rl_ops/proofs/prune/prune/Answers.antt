use Rattle.rl_ops.proofs.PruneLaws.{only_memory}
use Rattle.rl_ops.proofs.StandsLaws.{if_err_to}
use Rattle.rl_ops.proofs.prune.prune.Goals as goal

pub returns-clause-refused : goal.returns-clause-refused
returns-clause-refused c = if_err_to _ _ c.explore.result (λ e h. only_memory c.args.m.now c.deref.result.now c.args.most e h) c.explore.ensures.refused
