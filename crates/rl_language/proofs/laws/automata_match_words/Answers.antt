use Rattle.rl_language.proofs.Matching.{automata_match, unpruned_match}
use Rattle.rl_language.proofs.laws.automata_match_words.Goals as goal

pub returns-clause-honest : goal.returns-clause-honest
returns-clause-honest c = automata_match

pub returns-clause-unpruned : goal.returns-clause-unpruned
returns-clause-unpruned c = unpruned_match
