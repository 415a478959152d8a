use Rattle.std.proofs.Common.{◌≡◌, ◌<◌, ℕ, Some}
use Rattle.std.specs.Prelude.{slice_get}
use Rattle.rl_model.specs.declared.spec.Spec.{Spec}
use Rattle.rl_printed.specs.Reading.{IsSoundAt}
use Rattle.rl_printed.proofs.quiet.check_machines.Given as goal

-- all machines so far are sound
abbrev pub invariant-loop-i : goal.invariant-loop-i
invariant-loop-i l = (k : ℕ) (spec : Spec) → k < l.i → slice_get l.specs k ≡ Some spec → IsSoundAt spec l.tables k
