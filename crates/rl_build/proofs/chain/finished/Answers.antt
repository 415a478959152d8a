use Rattle.rl_automata.specs.Nodes.{node_of}
use Rattle.rl_build.proofs.ChainLaws.{small_built}
use Rattle.rl_build.proofs.chain.finished.Goals as goal

pub returns-in-Some-clause-small : goal.returns-in-Some-clause-small
returns-in-Some-clause-small c = small_built c.args.alphabet (node_of c.args.t.now) c.in-Some.built c.requires.fit c.in-Some.ensures
