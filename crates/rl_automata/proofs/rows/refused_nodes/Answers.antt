use Rattle.std.proofs.Common.{refl}
use Rattle.rl_types.specs.Alphabet.{keys_of}
use Rattle.rl_automata.proofs.CycleRow.{circle}
use Rattle.rl_automata.proofs.rows.refused_nodes.Goals as goal

pub returns-clause-cycle : goal.returns-clause-cycle
returns-clause-cycle c = circle

pub returns-clause-classes : goal.returns-clause-classes
unfolding keys_of
returns-clause-classes c = refl
