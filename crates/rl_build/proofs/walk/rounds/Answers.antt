use Rattle.std.proofs.Common.{subst}
use Rattle.rl_automata.specs.Nodes as N
use Rattle.rl_build.specs.Nodes.{IsMadeFor}
use Rattle.rl_build.specs.Trees.{IsBuilt}
use Rattle.rl_build.proofs.AnswerLaws.{star_ready, star_up, operand_of}
use Rattle.rl_build.proofs.walk.rounds.Goals as goal

pub returns-in-Ok : goal.returns-in-Ok
returns-in-Ok c = λ alphabet t h.
    let x : IsBuilt alphabet t c.in-Ok.operand = rw c.in-Ok.is at h in
    c.answer.ensures alphabet (N.Star t c.args.base) (star_ready alphabet t c.args.base c.in-Ok.operand x) x.cells
    (subst (λ n. IsMadeFor (N.Star t c.args.base) n c.repeated-made.result) c.most.ensures (c.repeated-made.ensures t (operand_of alphabet t c.in-Ok.operand x)))

pub returns-in-Err : goal.returns-in-Err
returns-in-Err c = λ alphabet t h. star_up alphabet t c.args.base c.in-Err.refused (rw c.in-Err.is at h)
