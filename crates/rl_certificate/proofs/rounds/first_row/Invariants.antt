use Rattle.rl_certificate.specs.Tables.{rows_of, IsBegun}
use Rattle.rl_certificate.proofs.rounds.first_row.Given as goal

abbrev pub invariant-loop-high : goal.invariant-loop-high
invariant-loop-high l = IsBegun l.min l.homes (rows_of l.table) l.still.items l.low l.high
