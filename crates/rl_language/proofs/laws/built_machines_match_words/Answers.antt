use Rattle.rl_language.proofs.BuiltWords.{built_match, built_tell}
use Rattle.rl_language.proofs.laws.built_machines_match_words.Goals as goal

pub returns-clause-machines : goal.returns-clause-machines
returns-clause-machines c = built_match

pub returns-clause-verdicts : goal.returns-clause-verdicts
returns-clause-verdicts c = built_tell
