use Rattle.std.proofs.Common.{◌∙◌, sym}
use Rattle.rl_build.proofs.CellLaws.{ranges_same}
use Rattle.rl_build.proofs.counting.is_same.Goals as goal

pub returns : goal.returns
returns c = λ t. ranges_same c.args.a.now c.args.b.now (sym c.eq.ensures ∙ t)
