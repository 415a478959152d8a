use Rattle.std.proofs.Common.{◌≡◌, ◌++◌, drop}
use Rattle.rl_scan.specs.Beside.{all_marks}
use Rattle.rl_scan.proofs.beside.all_marks.Given as goal

abbrev pub invariant-loop-m : goal.invariant-loop-m
invariant-loop-m l = all_marks l.machines l.parts l.kind ≡ l.marks.items ++ all_marks (drop l.m-index l.machines) l.rest l.kind
