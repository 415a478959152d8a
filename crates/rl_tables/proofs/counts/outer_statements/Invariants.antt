use Rattle.std.proofs.Common.{◌≡◌, ◌+◌, ◌≤◌, length, drop}
use Rattle.rl_arrays.specs.Statements.{outer_kinds, up_to_end}
use Rattle.rl_tables.proofs.counts.outer_statements.Given as goal

abbrev pub invariant-loop-i : goal.invariant-loop-i
invariant-loop-i l = (l.count ≤ l.i) × (length (up_to_end (outer_kinds l.kinds l.marks)) ≡ l.count + length (up_to_end (outer_kinds (drop l.i l.kinds) (drop l.i l.marks))))
