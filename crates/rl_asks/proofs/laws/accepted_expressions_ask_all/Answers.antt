use Rattle.rl_asks.proofs.Plain.{quiet_is_plain, accepted_no_cycles}
use Rattle.rl_asks.proofs.HiddenRow.{hidden}
use Rattle.rl_asks.proofs.laws.accepted_expressions_ask_all.Goals as goal

pub returns-clause-no_cycles : goal.returns-clause-no_cycles
returns-clause-no_cycles c = quiet_is_plain

pub returns-clause-accepted : goal.returns-clause-accepted
returns-clause-accepted c = accepted_no_cycles

pub returns-clause-cycle : goal.returns-clause-cycle
returns-clause-cycle c = hidden
