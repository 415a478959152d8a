use Rattle.std.proofs.Common.{ap, ◌∙◌}
use Rattle.rl_layout.specs.Shares.{values}
use Rattle.rl_layout.proofs.ShareCode.{inserted}
use Rattle.rl_layout.proofs.shares.add_cell.Goals as goal

pub returns-in-Ok : goal.returns-in-Ok
returns-in-Ok c = ap values c.in-Ok.ensures.keys ∙ inserted c.args.cells.now.keys c.args.cell
