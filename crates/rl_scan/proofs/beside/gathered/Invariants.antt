use Rattle.std.proofs.Common.{◌≡◌, drop}
use Rattle.rl_scan.specs.Beside.{asked_with}
use Rattle.rl_scan.proofs.beside.gathered.Given as goal

abbrev pub invariant-loop-m : goal.invariant-loop-m
invariant-loop-m l = asked_with 0 l.machines l.parts l.at.key ≡ asked_with l.asks (drop l.m-index l.machines) l.rest l.at.key
