use Rattle.rl_automata.specs.Nodes.{node_of}
use Rattle.rl_model.specs.Counts.{size_of}
use Rattle.rl_build.proofs.chain.+sums_of.Given as goal

abbrev pub decreases-sums_of : goal.decreases-sums_of
decreases-sums_of l = size_of (node_of l.t.now)
