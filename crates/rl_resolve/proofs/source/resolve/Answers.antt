use Rattle.rl_resolve.proofs.AnswerLaws.{count_as}
use Rattle.rl_resolve.proofs.source.resolve.Goals as goal

pub returns-clause-count : goal.returns-clause-count
returns-clause-count g c =
    count_as (g.S.Store.faults c.args.store.now) (g.S.Store.faults c.unroll.new.store) c.args.runs c.in-Ok.unrolled c.in-Ok.ensures.cause c.answered.result c.answered.ensures.settles
