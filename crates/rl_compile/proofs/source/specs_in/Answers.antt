use Rattle.std.proofs.Common.{◌∙◌}
use Rattle.rl_compile.proofs.ReadLaws.{text_unread, names_refused, specs_said}
use Rattle.rl_compile.proofs.NameLaws.{own_names}
use Rattle.rl_compile.proofs.source.specs_in.Goals as goal

pub returns-in-Err-clause-reads : goal.returns-in-Err-clause-reads
returns-in-Err-clause-reads g c =
    rw c.told_by_text.ensures (text_unread _ _ _ _ c.args.runs _ _ c.requires (c.in-Ok.ensures ∙ c.as_bytes.ensures.value) c.in-Err.ensures.refused)

pub returns-clause-reads : goal.returns-clause-reads
returns-clause-reads g c =
    let e = c.in-Err-resolve.ensures in
    let same = c.in-Ok.ensures ∙ c.as_bytes.ensures.value in
    rw c.told_by_names.ensures (names_refused _ _ _ _ _ _ _ _ _ same c.requires c.in-Ok-read_file.ensures.read e.refused e.due e.count.failed)

pub returns-in-Ok-resolve-clause-reads : goal.returns-in-Ok-resolve-clause-reads
returns-in-Ok-resolve-clause-reads g c =
    let e = c.in-Ok-resolve.ensures in
    let same = c.in-Ok.ensures ∙ c.as_bytes.ensures.value in
    (specs_said _ _ _ _ _ _ _ same c.requires c.in-Ok-read_file.ensures.read e.resolved, e.count.accepted tt)

pub returns-in-Ok-resolve-clause-named : goal.returns-in-Ok-resolve-clause-named
returns-in-Ok-resolve-clause-named g c = own_names _ _ _ _ _ c.in-Ok-resolve.ensures.resolved
