-- Each call is for a smaller expression, or for two that are smaller together.
use Rattle.std.proofs.Common.{◌+◌, ◌*◌}
use Rattle.rl_automata.specs.Nodes.{node_of}
use Rattle.rl_model.specs.Counts.{size_of}
use Rattle.rl_build.proofs.walk.+expression.Given as goal

abbrev pub decreases-expression : goal.decreases-expression
decreases-expression l = 3 * size_of (node_of l.t.now)

abbrev pub decreases-operator : goal.decreases-operator
decreases-operator l = 3 * (size_of (node_of l.a.now) + size_of (node_of l.b.now)) + 2

abbrev pub decreases-operands_of_both : goal.decreases-operands_of_both
decreases-operands_of_both l = 3 * (size_of (node_of l.a.now) + size_of (node_of l.b.now)) + 2

abbrev pub decreases-operands : goal.decreases-operands
decreases-operands l = 3 * size_of (node_of l.t.now) + 1
