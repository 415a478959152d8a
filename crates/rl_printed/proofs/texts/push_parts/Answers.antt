use Rattle.std.proofs.Common.{◌≡◌, ◌<◌, ◌+◌, ◌∷◌, length, drop, rules, arith, ap, ◌∙◌}
use Rattle.std.proofs.lemmas.List.{drop_more}
use Rattle.rl_lexical.specs.declared.part.Part.TheVariants as p
use Rattle.rl_printed.specs.Printed.{job_text}
use Rattle.rl_printed.proofs.JobLaws.{block_more, host_more}
use Rattle.rl_printed.proofs.texts.push_parts.Goals as goal
use Rattle.rl_printed.proofs.texts.push_parts.Goals.{in-Host+in_ok-extend-in-Host, in-Block+in_ok-push_jobs-in-Block}

pub loop-part-preserved : goal.loop-part-preserved
loop-part-preserved c =
    let there : c.loop-part.part-index < length c.args.parts.now = search rules in
    elim c.match-part.branch [
      | in-Host+in_ok-extend-in-Host w ↦ (
          rw (w.text-is, w.block-is, w.rest-is) (
          let cut : drop c.loop-part.part-index c.args.parts.now ≡ p.Host w.in-Host.host ∷ drop (c.loop-part.part-index + 1) c.args.parts.now =
          drop_more c.args.parts.now c.loop-part.part-index c.part-item.result there ∙ ap (λ x. x ∷ drop (c.loop-part.part-index + 1) c.args.parts.now) (search rules) in (
            host_more (job_text c.args.specs.now c.args.tables.now) c.loop-part.block _ _ c.loop-part.rest.now w.in-Host.host c.loop-part.text.items w.extend.new.text.items _ cut c.loop-part.invariant.0
                (search rules),
            c.loop-part.invariant.1,
            let k = c.loop-part.invariant.2 in omega (arith, k),
          )))
      | in-Block+in_ok-push_jobs-in-Block w ↦ (
          rw (w.text-is, w.block-is, w.rest-is) (
          let cut : drop c.loop-part.part-index c.args.parts.now ≡ p.Block w.in-Block.field-0 ∷ drop (c.loop-part.part-index + 1) c.args.parts.now =
          drop_more c.args.parts.now c.loop-part.part-index c.part-item.result there ∙ ap (λ x. x ∷ drop (c.loop-part.part-index + 1) c.args.parts.now) (search rules) in
          let b = block_more (job_text c.args.specs.now c.args.tables.now) c.loop-part.block _ _ w.in-Block.field-0 c.loop-part.rest.now w.cut_block.result.1.now c.loop-part.text.items w.push_jobs.new.text.items _
          c.loop-part.invariant.1 cut c.loop-part.invariant.0 w.cut_block.ensures.behind (search rules) in (
            b.0,
            b.1,
            let k = c.loop-part.invariant.2 in omega (arith, k),
          )))
    ]
