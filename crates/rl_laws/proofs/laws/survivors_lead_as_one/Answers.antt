use Rattle.rl_laws.proofs.Leading.{lead_as_one, lead_in_any_order, lead_in_turn}
use Rattle.rl_laws.proofs.laws.survivors_lead_as_one.Goals as goal

pub returns-clause-one : goal.returns-clause-one
returns-clause-one c = lead_as_one

pub returns-clause-any_order : goal.returns-clause-any_order
returns-clause-any_order c = lead_in_any_order

pub returns-clause-in_turn : goal.returns-clause-in_turn
returns-clause-in_turn c = lead_in_turn
