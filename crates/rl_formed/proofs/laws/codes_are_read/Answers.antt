use Rattle.rl_formed.proofs.StatementLaws.{have_read_codes, have_few_statements, have_quiet_conditions, have_quiet_turns, have_quiet_patterns}
use Rattle.rl_formed.proofs.laws.codes_are_read.Goals as goal

pub returns-clause-codes : goal.returns-clause-codes
returns-clause-codes c = have_read_codes

pub returns-clause-few : goal.returns-clause-few
returns-clause-few c = have_few_statements

pub returns-clause-conditions : goal.returns-clause-conditions
returns-clause-conditions c = have_quiet_conditions

pub returns-clause-turns : goal.returns-clause-turns
returns-clause-turns c = have_quiet_turns

pub returns-clause-patterns : goal.returns-clause-patterns
returns-clause-patterns c = have_quiet_patterns
