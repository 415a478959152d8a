use Rattle.std.proofs.Common.{◌≡◌, drop}
use Rattle.rl_scan.specs.Beside.{any_final}
use Rattle.rl_scan.proofs.beside.any_final.Given as goal

abbrev pub invariant-loop-m : goal.invariant-loop-m
invariant-loop-m l = any_final l.machines l.parts ≡ any_final (drop l.m-index l.machines) l.rest
