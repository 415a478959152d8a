use Rattle.std.proofs.Common.{◌≡◌, ◌∙◌, ap, refl, rules}
use Rattle.rl_words.specs.Told.{texts}
use Rattle.rl_compile.proofs.Steps.{ends_done, ends_by, ends_unasked}
use Rattle.rl_compile.proofs.program.run.Goals as goal

pub returns-in-Ok-compile_asked : goal.returns-in-Ok-compile_asked
returns-in-Ok-compile_asked g c =
    let here : c.deref.result.now ≡ c.in-Ok.strs.items = search rules in
    ends_done _ _ _ _ (ap texts here ∙ c.in-Ok.ensures) c.in-Ok-asked.ensures c.in-Ok-compile_asked.ensures

pub returns-in-Ok-asked : goal.returns-in-Ok-asked
returns-in-Ok-asked g c =
    let here : c.deref.result.now ≡ c.in-Ok.strs.items = search rules in
    rw c.refusal_by.ensures (ends_by _ _ _ _ _ (ap texts here ∙ c.in-Ok.ensures) c.in-Ok-asked.ensures c.in-Err.ensures)

pub returns-in-Err-Usage : goal.returns-in-Err-Usage
returns-in-Err-Usage g c =
    let here : c.deref.result.now ≡ c.in-Ok.strs.items = search rules in
    ends_unasked _ _ _ _ (ap texts here ∙ c.in-Ok.ensures) c.in-Err-Usage.field-0-is c.in-Err-Usage.ensures refl refl
