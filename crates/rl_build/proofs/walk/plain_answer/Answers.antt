use Rattle.std.proofs.Common.{subst}
use Rattle.rl_build.specs.Nodes.{IsMadeFor}
use Rattle.rl_build.proofs.AnswerLaws.{answer_memory}
use Rattle.rl_build.proofs.walk.plain_answer.Goals as goal

pub returns-in-Ok : goal.returns-in-Ok
returns-in-Ok c = λ alphabet t o p m k s. c.answer.ensures alphabet t o (rw c.in-Ok.is at k) (subst (λ n. IsMadeFor t n c.limited-made.result) c.most.ensures (c.limited-made.ensures t p m s))

pub returns-in-Err : goal.returns-in-Err
returns-in-Err c = λ alphabet t o p m k s. answer_memory alphabet t c.args.nodes o
