use Rattle.rl_unions.proofs.Growing.{grows, free_jams}
use Rattle.rl_unions.proofs.laws.unions_grow.Goals as goal

pub returns-clause-more : goal.returns-clause-more
returns-clause-more c = grows

pub returns-clause-cycles : goal.returns-clause-cycles
returns-clause-cycles c = free_jams
