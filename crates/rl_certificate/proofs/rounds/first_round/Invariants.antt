use Rattle.std.proofs.Common.{◌+◌}
use Rattle.rl_certificate.specs.Tables.{rows_of, IsBegun}
use Rattle.rl_certificate.proofs.rounds.first_round.Given as goal

abbrev pub invariant-loop-low : goal.invariant-loop-low
invariant-loop-low l = IsBegun l.min l.homes (rows_of l.table) l.still.items l.low (l.low + 1)
