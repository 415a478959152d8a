use Rattle.rl_ops.proofs.StandsLaws.{if_ok_to}
use Rattle.rl_build.proofs.CellLaws.{cells_swapped, few_swapped}
use Rattle.rl_build.proofs.counting.joined.Goals as goal

pub returns-then-len-clause-cells : goal.returns-then-len-clause-cells
returns-then-len-clause-cells c = if_ok_to _ _ c.extended.result (λ d f xs ys cs ds p q. cells_swapped c.args.alphabet xs ys cs ds d (f ys xs ds cs q p)) c.extended.ensures.cells

pub returns-then-len-clause-few : goal.returns-then-len-clause-few
returns-then-len-clause-few c = if_ok_to _ _ c.extended.result (λ d f. few_swapped _ _ _ f) c.extended.ensures.few
