use Rattle.rl_automata.specs.Nodes as N
use Rattle.rl_build.proofs.AnswerLaws.{set_ready}
use Rattle.rl_build.proofs.walk.character.Goals as goal

pub returns : goal.returns
returns c = c.plain_answer.ensures c.args.alphabet (N.Set c.args.set.now) (set_ready c.args.alphabet c.args.set.now) tt (tt, tt) c.set_cells-cells.ensures c.of_set.ensures
