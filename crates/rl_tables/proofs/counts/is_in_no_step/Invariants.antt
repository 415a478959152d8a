use Rattle.std.proofs.Common.{◌≡◌, ◌<◌, ◌≤◌, ℕ, Some, pos}
use Rattle.rl_arrays.specs.Sizes.{used_cell}
use Rattle.rl_tables.specs.Moves.{NotInCell}
use Rattle.rl_tables.proofs.counts.is_in_no_step.Given as goal

abbrev pub invariant-loop-place : goal.invariant-loop-place
invariant-loop-place l = (p cell : ℕ) → l.from ≤ p → p < l.place → used_cell l.a p ≡ Some (pos cell) → NotInCell l.a l.k cell
