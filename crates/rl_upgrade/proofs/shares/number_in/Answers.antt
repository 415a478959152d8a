use Rattle.std.proofs.Common.{ℕ, ap, ◌∙◌}
use Rattle.std.specs.Prelude.{Option, unwrap_or}
use Rattle.rl_upgrade.specs.Values.{number_among}
use Rattle.rl_upgrade.proofs.ShareCode.{numbered}
use Rattle.rl_upgrade.proofs.shares.number_in.Goals as goal

pub returns-in-Some : goal.returns-in-Some
unfolding number_among
returns-in-Some c = ap (λ (o : Option ℕ). unwrap_or o 0) c.in-Some.ensures.index ∙ numbered c.args.cells.now.keys c.args.cell.now

pub returns-in-None : goal.returns-in-None
unfolding number_among
returns-in-None c = ap (λ (o : Option ℕ). unwrap_or o 0) c.in-None.ensures.index ∙ numbered c.args.cells.now.keys c.args.cell.now
