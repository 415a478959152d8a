use Rattle.rl_automata.specs.Nodes as N
use Rattle.rl_ops.proofs.StandsLaws.{if_ok_to}
use Rattle.rl_build.specs.Trees.{IsBuilt}
use Rattle.rl_build.proofs.AnswerLaws.{mark_ready, mark_up}
use Rattle.rl_build.proofs.walk.mark.Goals as goal

pub returns-in-Ok : goal.returns-in-Ok
returns-in-Ok c = λ alphabet t h.
    let x : IsBuilt alphabet t c.in-Ok.operand = rw c.in-Ok.is at h in
    c.plain_answer.ensures alphabet (N.Mark t c.args.class c.args.kind c.args.stamp c.args.action.0) (mark_ready alphabet t c.args.class c.args.kind c.args.stamp c.args.action.0 c.in-Ok.operand x) tt x.tests x.cells
    (if_ok_to _ _ c.embed_marks-machine.result (λ m f. f t x.stands) c.embed_marks-machine.ensures.stands)

pub returns-in-Err : goal.returns-in-Err
returns-in-Err c = λ alphabet t h. mark_up alphabet t c.args.class c.args.kind c.args.stamp c.args.action.0 c.in-Err.refused (rw c.in-Err.is at h)
