use Rattle.std.proofs.Common.{◌≡◌, ◌++◌, length}
use Rattle.std.specs.Prelude.{reverse}
use Rattle.rl_includes.specs.Turns.{placed}
use Rattle.rl_includes.proofs.queue.put.Given as goal

abbrev pub invariant-loop-statement : goal.invariant-loop-statement
invariant-loop-statement l = placed l.block l.statements ++ reverse l.queue ≡ placed l.block l.initial.statements ++ reverse l.initial.queue

abbrev pub decreases-loop-statement : goal.decreases-loop-statement
decreases-loop-statement l = length l.statements
