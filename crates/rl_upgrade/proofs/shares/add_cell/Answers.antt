use Rattle.std.proofs.Common.{ap, ◌∙◌}
use Rattle.rl_upgrade.specs.Values.{values}
use Rattle.rl_upgrade.proofs.ShareCode.{inserted}
use Rattle.rl_upgrade.proofs.shares.add_cell.Goals as goal

pub returns-in-Ok : goal.returns-in-Ok
returns-in-Ok c = ap values c.in-Ok.ensures.keys ∙ inserted c.args.cells.now.keys c.args.cell
