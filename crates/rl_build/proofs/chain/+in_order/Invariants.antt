use Rattle.rl_automata.specs.Nodes.{node_of}
use Rattle.rl_model.specs.Counts.{size_of}
use Rattle.rl_build.proofs.chain.+in_order.Given as goal

abbrev pub decreases-in_order : goal.decreases-in_order
decreases-in_order l = size_of (node_of l.t.now)
