use Rattle.std.proofs.Common.{subst}
use Rattle.rl_automata.specs.Refused.{sets_in, conditions_in}
use Rattle.rl_build.specs.Nodes.{IsMadeFor, pair_node}
use Rattle.rl_build.proofs.AnswerLaws.{pair_ready, pair_cells, operand_of}
use Rattle.rl_build.proofs.walk.both.Goals as goal

pub returns-in-Ok : goal.returns-in-Ok
returns-in-Ok c = λ s t x y.
    let alphabet = c.args.alphabet in
    let u = pair_node c.args.how s t in
    c.answer.ensures alphabet u (pair_ready alphabet c.args.how s t c.args.left c.args.right x y)
    (pair_cells alphabet c.args.how s t c.in-Ok.cells (c.in-Ok.ensures.cells (sets_in s) (sets_in t) (conditions_in s) (conditions_in t) x.cells y.cells))
    (subst (λ n. IsMadeFor u n c.paired-made.result) c.most.ensures (c.paired-made.ensures s t (operand_of alphabet s c.args.left x) (operand_of alphabet t c.args.right y)))
