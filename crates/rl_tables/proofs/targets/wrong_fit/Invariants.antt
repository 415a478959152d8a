use Rattle.std.proofs.Common.{length}
use Rattle.rl_arrays.specs.Words.{IsFirstWrong}
use Rattle.rl_tables.specs.TargetParts.{StatesFit}
use Rattle.rl_tables.proofs.targets.wrong_fit.Given as goal

abbrev pub invariant-loop-s : goal.invariant-loop-s
invariant-loop-s l = IsFirstWrong (length l.a.trans_targs) (StatesFit l.a l.s) l.wrong
