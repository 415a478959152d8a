use Rattle.std.proofs.Common.{◌≤◌, length}
use Rattle.rl_arrays.specs.Words.{IsFirstWrong}
use Rattle.rl_tables.specs.TargetParts.{UsesFit}
use Rattle.rl_tables.proofs.targets.wrong_in_state.Given as goal

abbrev pub invariant-loop-place : goal.invariant-loop-place
invariant-loop-place l = record {
  from : l.from ≤ l.place;
  wrong : IsFirstWrong (length l.a.trans_targs) (UsesFit l.a l.s l.from l.place) l.wrong;
}
