use Rattle.ragel_run.proofs.StreamSteps.{ran, ran_so}
use Rattle.ragel_run.proofs.streamed.run_from.Goals as goal

pub returns-in-Ok : goal.returns-in-Ok
returns-in-Ok g c = ran _ _ _ _ _ _ _ _ _ c.default_settings.ensures c.in-Ok.ensures.streams c.in-Ok.ensures.input_cause c.in-Ok.ensures.output_cause

pub returns-in-Err : goal.returns-in-Err
returns-in-Err g c =
    ran_so _ _ _ _ _ _ _ _ _ _ _ c.default_settings.ensures c.requires.named c.refusal_by.ensures c.in-Err.ensures.front c.in-Err.ensures.events c.in-Err.ensures.input_failed
    c.in-Err.ensures.too_long c.in-Err.ensures.input_cause c.in-Err.ensures.output_cause
