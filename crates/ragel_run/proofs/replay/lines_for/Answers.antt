use Rattle.ragel_run.proofs.Steps.{lines_given}
use Rattle.ragel_run.proofs.replay.lines_for.Goals as goal

pub returns-clause-gives : goal.returns-clause-gives
returns-clause-gives g c = lines_given _ _ _ _ _ _ _ c.play.result c.in-Ok.ensures.same c.in-Ok.ensures.reads c.play.ensures.gives
