use Rattle.std.proofs.Common.{◌<◌, ℕ}
use Rattle.rl_arrays.specs.Rules.{HasKind}
use Rattle.rl_tables.specs.Moves.{NotInState}
use Rattle.rl_tables.proofs.counts.is_in_no_scan.Given as goal

abbrev pub invariant-loop-s : goal.invariant-loop-s
invariant-loop-s l = (t : ℕ) → t < l.s → HasKind l.a t 1 3 → NotInState l.a l.k t
