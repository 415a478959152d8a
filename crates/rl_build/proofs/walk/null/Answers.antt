use Rattle.rl_automata.specs.Nodes as N
use Rattle.rl_build.proofs.AnswerLaws.{null_ready}
use Rattle.rl_build.proofs.walk.null.Goals as goal

pub returns : goal.returns
returns c = c.plain_answer.ensures c.args.alphabet N.Null (null_ready c.args.alphabet) tt (tt, tt) c.no_cells-cells.ensures c.of_null.ensures
