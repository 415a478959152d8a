use Rattle.rl_rows.proofs.PlainRows.{said_yes, not_said}
use Rattle.rl_rows.proofs.rows.conditions_are_written.Goals as goal

pub returns-clause-said_yes : goal.returns-clause-said_yes
returns-clause-said_yes c = said_yes

pub returns-clause-not_said : goal.returns-clause-not_said
returns-clause-not_said c = not_said
