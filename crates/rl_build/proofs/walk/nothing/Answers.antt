use Rattle.rl_automata.specs.Nodes as N
use Rattle.rl_build.proofs.AnswerLaws.{nothing_ready}
use Rattle.rl_build.proofs.walk.nothing.Goals as goal

pub returns : goal.returns
returns c = c.plain_answer.ensures c.args.alphabet N.Nothing (nothing_ready c.args.alphabet) tt (tt, tt) c.no_cells-cells.ensures c.of_nothing.ensures
