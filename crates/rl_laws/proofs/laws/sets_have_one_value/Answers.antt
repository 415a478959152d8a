use Rattle.rl_laws.proofs.Sets.{one_set, sets_are_told, sets_are_read}
use Rattle.rl_laws.proofs.laws.sets_have_one_value.Goals as goal

pub returns-clause-one : goal.returns-clause-one
returns-clause-one c = one_set

pub returns-clause-told : goal.returns-clause-told
returns-clause-told c = sets_are_told

pub returns-clause-read : goal.returns-clause-read
returns-clause-read c = sets_are_read
