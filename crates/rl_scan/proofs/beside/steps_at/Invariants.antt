use Rattle.std.proofs.Common.{◌≡◌, ◌++◌, drop}
use Rattle.rl_scan.specs.Beside.{steps_at}
use Rattle.rl_scan.proofs.beside.steps_at.Given as goal

abbrev pub invariant-loop-m : goal.invariant-loop-m
invariant-loop-m l = steps_at l.machines l.parts l.letter ≡ l.steps.items ++ steps_at (drop l.m-index l.machines) l.rest l.letter
