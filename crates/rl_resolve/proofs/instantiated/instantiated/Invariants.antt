use Rattle.std.proofs.Common.{◌≡◌, ℕ, List, drop}
use Rattle.std.specs.Prelude.{◌||◌}
use Rattle.rl_resolve.specs.Instances.{has_in}
use Rattle.rl_resolve.specs.Resolving.{has_instance}
use Rattle.rl_resolve.proofs.instantiated.instantiated.Given as goal

abbrev pub invariant-loop-step : goal.invariant-loop-step
invariant-loop-step l = record {
  read : (x : List ℕ) → (has_in x l.table || has_instance (drop l.step-index l.steps) x) ≡ has_instance l.steps x;
}
