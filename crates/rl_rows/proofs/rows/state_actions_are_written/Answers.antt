use Rattle.rl_rows.proofs.PlainRows.{from_and_to, error_action_runs, error_action_at_end}
use Rattle.rl_rows.proofs.rows.state_actions_are_written.Goals as goal

pub returns-clause-from_and_to : goal.returns-clause-from_and_to
returns-clause-from_and_to c = from_and_to

pub returns-clause-error_action_runs : goal.returns-clause-error_action_runs
returns-clause-error_action_runs c = error_action_runs

pub returns-clause-error_action_at_end : goal.returns-clause-error_action_at_end
returns-clause-error_action_at_end c = error_action_at_end
