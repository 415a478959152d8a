use Rattle.rl_compile.proofs.Complete.{is_complete}
use Rattle.rl_compile.proofs.Steps.{tells}
use Rattle.rl_compile.proofs.program.compile.Goals as goal

pub returns-clause-ends : goal.returns-clause-ends
returns-clause-ends g c = (c.run-end.result, c.run-end.ensures, c.status_for.ensures, tells _ _ _ _ _ c.tell-told.result c.tell-told.ensures)

pub returns-clause-complete : goal.returns-clause-complete
returns-clause-complete g c =
    is_complete _ _ c.run-end.result _ _ _ _ _ c.run-end.ensures c.status_for.ensures (tells _ _ _ _ _ c.tell-told.result c.tell-told.ensures)
