use Rattle.std.proofs.Common.{◌∙◌}
use Rattle.rl_replay.proofs.OwnPicks.{own_host}
use Rattle.rl_replay.proofs.host.answer_by_itself.Goals as goal

pub returns-clause-host : goal.returns-clause-host
returns-clause-host g c = λ past. c.answer_of.ensures ∙ own_host (g.L.LookUps.machine c.args.look_ups.now) past c.args.call.now
