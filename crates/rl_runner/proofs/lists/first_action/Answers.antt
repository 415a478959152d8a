use Rattle.std.proofs.Common.{All, subst}
use Rattle.std.proofs.lemmas.List.Elements.{All-tail}
use Rattle.rl_tables.specs.Steps.{IsId}
use Rattle.rl_runner.proofs.lists.first_action.Goals as goal

pub returns-in-Some-clause-actions : goal.returns-in-Some-clause-actions
returns-in-Some-clause-actions c =
    All-tail IsId c.in-Some.number.now c.in-Some.others.now (subst (All IsId) c.in-Some.ensures.cases.0 c.requires)
