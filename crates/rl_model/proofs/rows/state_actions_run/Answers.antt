use Rattle.rl_model.proofs.ActionRows.{from_and_to, error_action_runs, error_action_at_end, no_error_action_at_final}
use Rattle.rl_model.proofs.rows.state_actions_run.Goals as goal

pub returns-clause-from_and_to : goal.returns-clause-from_and_to
returns-clause-from_and_to c = from_and_to

pub returns-clause-error_action_runs : goal.returns-clause-error_action_runs
returns-clause-error_action_runs c = error_action_runs

pub returns-clause-error_action_at_end : goal.returns-clause-error_action_at_end
returns-clause-error_action_at_end c = error_action_at_end

pub returns-clause-no_error_action_at_final : goal.returns-clause-no_error_action_at_final
returns-clause-no_error_action_at_final c = no_error_action_at_final
