use Rattle.std.proofs.Common.{◌<◌, ◌≤◌, ℕ, Some}
use Rattle.std.specs.Prelude.{slice_get, ◌≢◌}
use Rattle.rl_tables.proofs.by_name.place_of.Given as goal

abbrev pub invariant-loop-k : goal.invariant-loop-k
invariant-loop-k l = (k : ℕ) → 1 ≤ k → k < l.k → slice_get l.names k ≢ Some l.name
