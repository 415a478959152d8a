use Rattle.std.proofs.Common.{rules, subst}
use Rattle.rl_files.specs.Files.{Explains}
use Rattle.ragel_run.proofs.ReadLaws.{trees_read, fault_read, limit_read}
use Rattle.ragel_run.proofs.source.read_trees.Goals as goal

pub returns-in-Ok-read_file-clause-reads : goal.returns-in-Ok-read_file-clause-reads
returns-in-Ok-read_file-clause-reads g c =
    trees_read _ _ c.in-Ok.text.items c.deref.result.now _ _ _ c.in-Ok.ensures.bytes c.deref.ensures.value c.in-Ok-read_file.ensures.read (search rules)

pub returns-in-Err-Fault-clause-reads : goal.returns-in-Err-Fault-clause-reads
returns-in-Err-Fault-clause-reads g c =
    let refused = subst (λ e. Explains 0 c.deref.result.now e) c.in-Err-Fault.field-0-is c.in-Err-Fault.ensures.refused in
    fault_read _ _ c.in-Ok.text.items c.deref.result.now c.in-Err-Fault.fault _ _ c.in-Ok.ensures.bytes c.deref.ensures.value refused (search rules)

pub returns-in-Err-Limit-clause-reads : goal.returns-in-Err-Limit-clause-reads
returns-in-Err-Limit-clause-reads g c =
    let refused = subst (λ e. Explains 0 c.deref.result.now e) c.in-Err-Limit.field-0-is c.in-Err-Limit.ensures.refused in
    limit_read _ _ c.in-Ok.text.items c.deref.result.now c.in-Err-Limit.limit _ _ c.in-Ok.ensures.bytes c.deref.ensures.value refused (search rules)
