use Rattle.ragel_run.proofs.ReadLaws.{running_is, one_formed, source_read}
use Rattle.ragel_run.proofs.source.read_source.Goals as goal

pub returns-in-Err-clause-reads : goal.returns-in-Err-clause-reads
returns-in-Err-clause-reads g c = c.in-Err.ensures.reads

pub tables_for-requires : goal.tables_for-requires
tables_for-requires g c = one_formed _ c.in-Ok.specs c.in-Some.spec.now c.in-Ok.ensures.formed (running_is _ c.in-Ok.specs c.as_slice.result.now c.in-Some.spec.now c.as_slice.ensures c.in-Some.ensures)

pub returns-in-Some-clause-reads : goal.returns-in-Some-clause-reads
returns-in-Some-clause-reads g c =
    let at = running_is _ c.in-Ok.specs c.as_slice.result.now c.in-Some.spec.now c.as_slice.ensures c.in-Some.ensures in
    let e = c.tables_for.ensures in
    source_read _ _ _ _ _ c.in-Ok.specs c.in-Some.spec.now c.tables_for.result c.in-Ok.ensures.reads at e.buildable e.made e.refused
