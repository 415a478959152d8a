use Rattle.rl_embed.specs.Embeds.{embed_node}
use Rattle.rl_ops.proofs.StandsLaws.{if_ok_to}
use Rattle.rl_build.specs.Trees.{IsBuilt}
use Rattle.rl_build.proofs.AnswerLaws.{label_ready, label_plain, label_tests, label_cells, label_up}
use Rattle.rl_build.proofs.walk.embedding.Goals as goal

pub returns-in-Ok : goal.returns-in-Ok
returns-in-Ok c = λ alphabet t h.
    let how = c.args.how in
    let label = c.args.label in
    let x : IsBuilt alphabet t c.in-Ok.operand = rw c.in-Ok.is at h in
    c.plain_answer.ensures alphabet (embed_node how t label) (label_ready alphabet how t label c.in-Ok.operand x) (label_plain alphabet how t label) (label_tests alphabet how t label x.tests)
    (label_cells alphabet how t label c.in-Ok.operand.cells x.cells) (if_ok_to _ _ c.labelled-machine.result (λ m f. f t x.stands) c.labelled-machine.ensures)

pub returns-in-Err : goal.returns-in-Err
returns-in-Err c = λ alphabet t h. label_up alphabet c.args.how t c.args.label c.in-Err.refused (rw c.in-Err.is at h)
