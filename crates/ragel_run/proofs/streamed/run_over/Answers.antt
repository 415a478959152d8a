use Rattle.std.proofs.Common.{refl}
use Rattle.ragel_run.proofs.StreamSteps.{found, not_found, wanting}
use Rattle.ragel_run.proofs.streamed.run_over.Goals as goal

pub returns-in-Some : goal.returns-in-Some
returns-in-Some g c =
    found _ c.arrays-arrays.ensures.valid _ _ _ _ _ _ _ c.as_bytes.ensures.value _ c.run_from.result c.in-Some.ensures.found c.in-Some.ensures.exists c.run_from.ensures

pub returns-in-None : goal.returns-in-None
returns-in-None g c = not_found c.args.tables.now _ _ _ _ _ _ c.as_bytes.ensures.value c.in-Ok.ensures c.in-None.ensures.none (refl, refl)

pub returns-in_default : goal.returns-in_default
returns-in_default g c = wanting _ _ _ _ _ (refl, refl)
