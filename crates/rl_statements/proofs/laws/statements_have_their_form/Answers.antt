use Rattle.rl_statements.proofs.StatementLaws.{goals_are_own, entries_are_own, entries_are_there, outer_are_few}
use Rattle.rl_statements.proofs.laws.statements_have_their_form.Goals as goal

pub returns-clause-goals_are_own : goal.returns-clause-goals_are_own
returns-clause-goals_are_own c = goals_are_own

pub returns-clause-entries_are_own : goal.returns-clause-entries_are_own
returns-clause-entries_are_own c = entries_are_own

pub returns-clause-entries_are_there : goal.returns-clause-entries_are_there
returns-clause-entries_are_there c = entries_are_there

pub returns-clause-outer_are_few : goal.returns-clause-outer_are_few
returns-clause-outer_are_few c = outer_are_few
