use Rattle.std.proofs.Common.{◌≤◌, refl, arith}
use Rattle.rl_automata.specs.Refused.{sets_in, conditions_in}
use Rattle.rl_build.specs.Cells.{most_of}
use Rattle.rl_build.proofs.ChainLaws.{cells_copied, sums_more}
use Rattle.rl_build.proofs.chain.more_sums.Goals as goal

pub returns : goal.returns
returns c = λ a b x y.
    let alphabet = c.args.alphabet in
    let fits : c.args.states ≤ most_of c.in_ok-cells.cells = omega (arith, c.most.ensures) in
    let copy = cells_copied alphabet (sets_in b) (conditions_in b) c.args.operand.now.cells c.in_ok-more.more c.in_ok-more.ensures y.cells in
    sums_more alphabet c.args.states a b c.args.sums _ c.args.operand.now x y (c.in_ok-cells.ensures.cells (sets_in a) (sets_in b) (conditions_in a) (conditions_in b) x.cells copy) refl fits
