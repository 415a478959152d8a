use Rattle.std.proofs.Common.{refl}
use Rattle.rl_build.proofs.AnswerLaws.{right_up}
use Rattle.rl_build.proofs.walk.pair.Goals as goal

pub returns-in-Ok : goal.returns-in-Ok
returns-in-Ok c = λ s t x h. c.both.ensures s t x (rw c.in-Ok.is at h)

pub returns-in-Err : goal.returns-in-Err
returns-in-Err c = λ s t x h. right_up c.args.alphabet c.args.how s t c.args.left c.in-Err.refused _ x (rw c.in-Err.is at h) refl refl
