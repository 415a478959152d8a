use Rattle.std.proofs.Common.{◌≡◌, ◌<◌, ℕ, Some, true}
use Rattle.std.specs.Prelude.{slice_get}
use Rattle.rl_model.specs.declared.spec.Spec.{Spec}
use Rattle.rl_printed.specs.Reading.{blocks_in, are_within}
use Rattle.rl_printed.proofs.quiet.check_blocks.Given as goal

-- the statements of all machines so far
abbrev pub invariant-loop-i : goal.invariant-loop-i
invariant-loop-i l = (k : ℕ) (spec : Spec) → k < l.i → slice_get l.specs k ≡ Some spec → are_within (blocks_in l.parts) spec.writes ≡ true
