use Rattle.std.proofs.Common.{◌∙◌, ap}
use Rattle.rl_build.specs.Adds.{insert_all}
use Rattle.rl_build.proofs.CellLaws.{cells_extended}
use Rattle.rl_build.proofs.counting.extended.Goals as goal

pub returns-clause-cells : goal.returns-clause-cells
returns-clause-cells c = λ xs ys cs ds p q. cells_extended c.args.alphabet xs ys cs ds c.args.cells c.args.more _ c.in_ok-added.added p q c.in_ok-added.ensures (rw c.deref-2.ensures.value at c.in_ok-classes.ensures.count)
    (c.in_ok-add_conditions.ensures ∙ ap (λ z. insert_all z c.args.cells.conditions.items) c.deref.ensures.value)
