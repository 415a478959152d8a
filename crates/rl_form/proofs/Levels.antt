-- Levels of expressions.
use Rattle.std.proofs.Common.{◌≤◌, arith}
use Rattle.rl_automata.specs.Nodes as N
use Rattle.rl_automata.specs.Nodes.{Node}
use Rattle.rl_model.specs.Counts.{depth_of}

-- an expression has a level
pub some_level : (t : Node) → 1 ≤ depth_of t
some_level (N.Set ranges) = omega arith
some_level N.Null = omega arith
some_level N.Nothing = omega arith
some_level (N.Union a b) = omega arith
some_level (N.And a b) = omega arith
some_level (N.Minus a b) = omega arith
some_level (N.Cat a b) = omega arith
some_level (N.Star a n) = omega arith
some_level (N.Enter a l) = omega arith
some_level (N.Finish a l) = omega arith
some_level (N.All a l) = omega arith
some_level (N.Leave a l) = omega arith
some_level (N.Mark a class kind s x) = omega arith
some_level (N.When a c) = omega arith
