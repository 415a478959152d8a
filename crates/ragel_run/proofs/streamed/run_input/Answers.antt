use Rattle.std.proofs.Common.{refl}
use Rattle.ragel_run.proofs.StreamSteps.{streamed, not_streamed}
use Rattle.ragel_run.proofs.streamed.run_input.Goals as goal

pub returns-clause-ends : goal.returns-clause-ends
returns-clause-ends g c = streamed _ _ _ _ _ _ _ _ _ _ c.run_over.result c.in-Ok.ensures.reads c.run_over.ensures

pub returns-in-Err-clause-ends : goal.returns-in-Err-clause-ends
returns-in-Err-clause-ends g c = not_streamed _ _ _ _ _ _ _ _ _ _ c.in-Err.ensures.reads refl refl (refl, refl)
