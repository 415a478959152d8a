use Rattle.rl_scan.proofs.FaultLaws.{if_err_to, cause_is}
use Rattle.rl_scan.proofs.patterns.explored.Goals as goal

pub returns-clause-refused : goal.returns-clause-refused
returns-clause-refused c = if_err_to _ _ c.explore.result (λ e h. cause_is c.args.machines.now c.args.most e h) c.explore.ensures.refused
