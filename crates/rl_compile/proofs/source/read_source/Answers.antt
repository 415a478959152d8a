use Rattle.rl_compile.proofs.ReadLaws.{reads_moved, text_refused, source_read, source_refused}
use Rattle.rl_compile.proofs.source.read_source.Goals as goal

pub returns-in-Err-clause-reads : goal.returns-in-Err-clause-reads
returns-in-Err-clause-reads g c = text_refused _ _ _ _ _ _ c.in-Err.ensures.reads

pub specs_in-requires : goal.specs_in-requires
specs_in-requires g c = reads_moved _ _ _ _ _ c.in-Ok.ensures.same c.as_slice.ensures c.in-Ok.ensures.reads.0

pub returns-in-Ok-specs_in-clause-reads : goal.returns-in-Ok-specs_in-clause-reads
returns-in-Ok-specs_in-clause-reads g c =
    source_read _ _ _ _ _ _ _ _ _ _ c.in-Ok.ensures.same c.as_slice.ensures c.in-Ok.ensures.reads.1 c.in-Ok-specs_in.ensures.reads

pub returns-in-Err-specs_in-clause-reads : goal.returns-in-Err-specs_in-clause-reads
returns-in-Err-specs_in-clause-reads g c =
    source_refused _ _ _ c.as_slice.result.now _ _ _ _ _ c.in-Ok.ensures.same c.in-Ok.ensures.reads.1 c.in-Err-specs_in.ensures.reads
