use Rattle.std.proofs.Common.{◌≡◌, ◌++◌, drop}
use Rattle.rl_scan.specs.Beside.{all_ranges}
use Rattle.rl_scan.proofs.beside.all_ranges.Given as goal

abbrev pub invariant-loop-m : goal.invariant-loop-m
invariant-loop-m l = all_ranges l.machines l.parts ≡ l.ranges.items ++ all_ranges (drop l.m-index l.machines) l.rest
