use Rattle.std.proofs.Common.{◌≡◌, take}
use Rattle.rl_scan.specs.Beside.{all_starts}
use Rattle.rl_scan.proofs.beside.all_starts.Given as goal

abbrev pub invariant-loop-m : goal.invariant-loop-m
invariant-loop-m l = l.starts.items ≡ all_starts (take l.m-index l.machines)
