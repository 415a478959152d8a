use Rattle.std.proofs.Common.{◌-◌, length}
use Rattle.rl_lex.specs.Longest.{IsReading}
use Rattle.rl_lex.proofs.front.closed.Given as goal

abbrev pub invariant-loop-mode : goal.invariant-loop-mode
invariant-loop-mode l = IsReading l.fn.start l.text l.n l.mode

abbrev pub decreases-loop-mode : goal.decreases-loop-mode
decreases-loop-mode l = length l.text - l.n
