use Rattle.std.proofs.Common.{◌≡◌, map, take}
use Rattle.rl_names.proofs.machines.owned.Given as goal

abbrev pub invariant-loop-one : goal.invariant-loop-one
invariant-loop-one l = l.names ≡ map (λ name. name.now) (take l.one-index l.all)
