use Rattle.ragel_run.proofs.Steps.{not_renewed, renewed, keeps_same, keeps_later}
use Rattle.ragel_run.proofs.upgrade.upgrade_file.Goals as goal

pub returns-in-Err-clause-ends : goal.returns-in-Err-clause-ends
returns-in-Err-clause-ends g c = not_renewed _ _ _ _ _ _ c.in-Err.ensures.same c.in-Err.ensures.reads

pub returns-in-Err-clause-others : goal.returns-in-Err-clause-others
returns-in-Err-clause-others g c = keeps_same _ _ _ c.in-Err.ensures.same

pub returns-in-Ok-new_section-clause-ends : goal.returns-in-Ok-new_section-clause-ends
returns-in-Ok-new_section-clause-ends g c =
    renewed _ _ _ _ _ _ _ _ _ _ c.write_file.result c.in-Ok.ensures.same c.in-Ok.ensures.reads c.in-Ok-new_section.ensures c.as_slice.ensures c.write_file.ensures.writes

pub returns-in-Ok-new_section-clause-others : goal.returns-in-Ok-new_section-clause-others
returns-in-Ok-new_section-clause-others g c = keeps_later _ _ _ _ c.in-Ok.ensures.same c.write_file.ensures.others

pub returns-clause-others : goal.returns-clause-others
returns-clause-others g c = keeps_same _ _ _ c.in-Ok.ensures.same
