use Rattle.rl_automata.proofs.RefusalLaws.{one_refusal, refused_or_built, built_with_all}
use Rattle.rl_automata.proofs.laws.refusals_are_sharp.Goals as goal

pub returns-clause-one : goal.returns-clause-one
returns-clause-one c = one_refusal

pub returns-clause-not_built : goal.returns-clause-not_built
returns-clause-not_built c = refused_or_built

pub returns-clause-any_tests : goal.returns-clause-any_tests
returns-clause-any_tests c = built_with_all
