use Rattle.std.proofs.Common.{◌∙◌, ap, replicate}
use Rattle.rl_rewrite.specs.Steps.{placed_of, appended}
use Rattle.rl_rewrite.proofs.CopyLaws.{row_step, row_step_last}
use Rattle.rl_rewrite.proofs.copies.row.Goals as goal

pub loop-i-preserved : goal.loop-i-preserved
loop-i-preserved c = row_step c.loop-i.made _ (placed_of c.args.x.now) c.args.few c.loop-i._i (replicate c.args.more (placed_of c.args.y.now)) c.args.at c.loop-i-test.true
    (c.in_ok-append.ensures ∙ ap (λ z. appended c.loop-i.made z c.args.at) c.in_ok-c.ensures) ∙ c.loop-i.invariant

pub loop-j-preserved : goal.loop-j-preserved
loop-j-preserved c = row_step_last c.loop-j.made _ (placed_of c.args.y.now) c.args.more c.loop-j._j c.args.at c.loop-j-test.true
    (c.in_ok-append-2.ensures ∙ ap (λ z. appended c.loop-j.made z c.args.at) c.in_ok-c-2.ensures) ∙ c.loop-j.invariant
