use Rattle.std.proofs.Common.{refl}
use Rattle.rl_build.proofs.CellLaws.{cells_guarded}
use Rattle.rl_build.proofs.counting.with_condition.Goals as goal

pub returns : goal.returns
returns c = λ alphabet xs cs p. cells_guarded alphabet xs cs c.args.cells _ c.args.condition p refl refl c.in_ok-put_in_place.ensures
