use Rattle.std.proofs.Common.{refl}
use Rattle.rl_build.proofs.PatternLaws.{row_more, row_refused}
use Rattle.rl_build.proofs.patterns.with_pattern.Goals as goal

pub returns-in-Ok-pushed : goal.returns-in-Ok-pushed
returns-in-Ok-pushed c = λ alphabet ps p h a. row_more alphabet ps p c.in-Ok.built c.args.row _ h (rw c.in-Ok.is at a) c.in-Ok-pushed.ensures refl

pub returns-in-Err : goal.returns-in-Err
returns-in-Err c = λ alphabet ps p h a. row_refused alphabet ps p c.args.row c.in-Err.refused _ h (rw c.in-Err.is at a) refl refl
