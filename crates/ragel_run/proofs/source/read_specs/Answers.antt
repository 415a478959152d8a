use Rattle.ragel_run.proofs.ReadLaws.{specs_by_text, specs_by_names, specs_read, running_formed}
use Rattle.ragel_run.proofs.source.read_specs.Goals as goal

pub returns-in-Err-clause-reads : goal.returns-in-Err-clause-reads
returns-in-Err-clause-reads g c = rw c.refusal_by_text.ensures (specs_by_text _ _ _ _ _ _ _ c.in-Ok.ensures c.in-Err.ensures.reads)

pub returns-clause-reads : goal.returns-clause-reads
returns-clause-reads g c =
    let e = c.in-Err-resolve.ensures in
    rw c.refusal_by_names.ensures
    (specs_by_names _ _ _ c.runs_of.ensures _ _ _ _ _ _ _ _ c.in-Ok-read_trees.ensures.same c.in-Ok.ensures c.in-Ok-read_trees.ensures.reads e.refused e.due e.count.failed)

pub returns-in-Ok-resolve-clause-reads : goal.returns-in-Ok-resolve-clause-reads
returns-in-Ok-resolve-clause-reads g c =
    let e = c.in-Ok-resolve.ensures in
    specs_read _ _ _ c.runs_of.ensures _ _ _ _ _ _ _ _ c.in-Ok-read_trees.ensures.same c.in-Ok.ensures c.in-Ok-read_trees.ensures.reads e.resolved (e.count.accepted tt)

pub returns-in-Ok-resolve-clause-formed : goal.returns-in-Ok-resolve-clause-formed
returns-in-Ok-resolve-clause-formed g c = running_formed _ _ _ c.runs_of.ensures c.in-Ok-resolve.ensures.formed c.in-Ok-resolve.ensures.runs
