use Rattle.std.proofs.Common.{◌≤◌, length}
use Rattle.rl_lex.specs.Longest.{NoLongerSign}
use Rattle.rl_lex.proofs.front.sign.Given as goal

abbrev pub invariant-loop-n : goal.invariant-loop-n
invariant-loop-n l = record { within : l.n ≤ length l.text; longer : NoLongerSign l.in_scanner l.text l.n }

abbrev pub decreases-loop-n : goal.decreases-loop-n
decreases-loop-n l = l.n
