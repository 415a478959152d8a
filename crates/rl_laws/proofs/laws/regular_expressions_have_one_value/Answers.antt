use Rattle.rl_laws.proofs.Regulars.{one_regular, regulars_are_told, regulars_are_read}
use Rattle.rl_laws.proofs.laws.regular_expressions_have_one_value.Goals as goal

pub returns-clause-one : goal.returns-clause-one
returns-clause-one c = one_regular

pub returns-clause-told : goal.returns-clause-told
returns-clause-told c = regulars_are_told

pub returns-clause-read : goal.returns-clause-read
returns-clause-read c = regulars_are_read
