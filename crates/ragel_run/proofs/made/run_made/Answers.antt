use Rattle.std.proofs.Common.{refl}
use Rattle.ragel_run.proofs.Steps.{made, not_made, of_bytes}
use Rattle.ragel_run.proofs.made.run_made.Goals as goal

pub returns-in-Ok-clause-ends : goal.returns-in-Ok-clause-ends
returns-in-Ok-clause-ends g c = made _ _ _ _ _ _ _ _ c.in-Ok.line c.write_lines.result c.in-Ok.ensures.gives (of_bytes _ _ _ _ _ _ _ c.as_slice.ensures c.write_lines.ensures)

pub returns-in-Err-clause-ends : goal.returns-in-Err-clause-ends
returns-in-Err-clause-ends g c = not_made _ _ _ _ _ _ _ _ _ c.in-Err.ensures.gives refl refl
