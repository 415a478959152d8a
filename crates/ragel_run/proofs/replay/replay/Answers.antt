use Rattle.ragel_run.proofs.Complete.{answers}
use Rattle.ragel_run.proofs.Steps.{ends_with}
use Rattle.ragel_run.proofs.replay.replay.Goals as goal

pub returns : goal.returns
returns g c = answers _ _ _ _ _ _ _ _ (ends_with _ _ _ _ _ _ _ _ c.run_telling-ended.result.1 c.run_telling-ended.ensures)
