use Rattle.std.proofs.Common.{refl}
use Rattle.rl_automata.proofs.DeadRow.{apart_is_dead}
use Rattle.rl_automata.proofs.rows.embeddings_along_words.Goals as goal

pub returns-clause-dead : goal.returns-clause-dead
returns-clause-dead c = (((tt, tt), (tt, tt), apart_is_dead), refl)
