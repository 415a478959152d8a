use Rattle.std.proofs.Common.{◌≡◌, drop}
use Rattle.rl_scan.specs.Beside.{first_out}
use Rattle.rl_scan.proofs.beside.first_out.Given as goal

abbrev pub invariant-loop-m : goal.invariant-loop-m
invariant-loop-m l = first_out l.machines l.parts ≡ first_out (drop l.m-index l.machines) l.rest
