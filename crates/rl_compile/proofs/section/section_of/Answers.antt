use Rattle.std.proofs.Common.{refl}
use Rattle.rl_compile.proofs.ReadLaws.{chosen_formed, chosen_here, sections, no_sections, section_unread_by}
use Rattle.rl_compile.proofs.section.section_of.Goals as goal

pub returns-in-Err-clause-refused : goal.returns-in-Err-clause-refused
returns-in-Err-clause-refused g c = section_unread_by _ _ _ _ _ _ _ c.runs_of-runs.ensures c.in-Err.ensures.refused

pub section_for-requires : goal.section_for-requires
section_for-requires g c =
    let at = chosen_here _ c.in-Ok.specs c.as_slice.result.now c.in-Some.spec.now _ c.as_slice.ensures refl c.in-Some.ensures in
    chosen_formed _ c.in-Ok.specs c.in-Some.spec.now c.in-Ok.ensures.formed c.in-Ok.ensures.running at

pub returns-in-Some-clause-section : goal.returns-in-Some-clause-section
returns-in-Some-clause-section g c =
    let at = chosen_here _ c.in-Ok.specs c.as_slice.result.now c.in-Some.spec.now _ c.as_slice.ensures refl c.in-Some.ensures in
    let e = c.section_for.ensures in
    sections _ _ _ _ c.in-Ok.specs c.in-Some.spec.now c.section_for.result c.runs_of-runs.ensures c.in-Ok.ensures.says at e.buildable e.section

pub returns-in-Some-clause-refused : goal.returns-in-Some-clause-refused
returns-in-Some-clause-refused g c =
    let at = chosen_here _ c.in-Ok.specs c.as_slice.result.now c.in-Some.spec.now _ c.as_slice.ensures refl c.in-Some.ensures in
    let e = c.section_for.ensures in
    no_sections _ _ _ _ _ _ c.in-Ok.specs c.in-Some.spec.now c.section_for.result c.runs_of-runs.ensures c.in-Ok.ensures.says c.in-Ok.ensures.quiet at e.refused
