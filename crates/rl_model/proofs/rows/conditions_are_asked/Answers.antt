use Rattle.rl_model.proofs.OperatorRows.{holds_and_runs, fails_and_stays, asked_only_there}
use Rattle.rl_model.proofs.rows.conditions_are_asked.Goals as goal

pub returns-clause-holds_and_runs : goal.returns-clause-holds_and_runs
returns-clause-holds_and_runs c = holds_and_runs

pub returns-clause-fails_and_stays : goal.returns-clause-fails_and_stays
returns-clause-fails_and_stays c = fails_and_stays

pub returns-clause-asked_only_there : goal.returns-clause-asked_only_there
returns-clause-asked_only_there c = asked_only_there
