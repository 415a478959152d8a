use Rattle.std.proofs.Common.{◌≡◌, drop}
use Rattle.rl_scan.specs.Beside.{first_empty_from}
use Rattle.rl_scan.proofs.patterns.first_empty.Given as goal

abbrev pub invariant-loop-i : goal.invariant-loop-i
invariant-loop-i l = first_empty_from 0 l.machines ≡ first_empty_from l.i (drop l.i l.machines)
