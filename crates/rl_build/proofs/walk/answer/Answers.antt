use Rattle.rl_build.proofs.AnswerLaws.{answer_built, answer_refused}
use Rattle.rl_build.proofs.walk.answer.Goals as goal

pub returns-in-Ok : goal.returns-in-Ok
returns-in-Ok c = λ alphabet t o k h. answer_built alphabet t c.args.nodes o c.args.cells k c.in-Ok.machine (rw c.in-Ok.is at h)

pub returns-in-Err : goal.returns-in-Err
returns-in-Err c = λ alphabet t o k h. answer_refused alphabet t c.args.nodes o c.args.cells k c.in-Err.fault (rw c.in-Err.is at h)
