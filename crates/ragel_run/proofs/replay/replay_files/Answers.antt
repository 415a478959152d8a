use Rattle.std.proofs.Common.{refl}
use Rattle.ragel_run.proofs.Steps.{written, refused, of_bytes}
use Rattle.ragel_run.proofs.replay.replay_files.Goals as goal

pub returns-in-Ok-clause-ends : goal.returns-in-Ok-clause-ends
returns-in-Ok-clause-ends g c =
    written _ _ _ _ _ _ _ _ c.in-Ok.lines c.write_lines.result c.in-Ok.ensures.gives (of_bytes _ _ _ _ _ _ _ c.as_slice.ensures c.write_lines.ensures)

pub returns-in-Err-clause-ends : goal.returns-in-Err-clause-ends
returns-in-Err-clause-ends g c = refused _ _ _ _ _ _ _ _ _ c.in-Err.ensures.gives refl refl
