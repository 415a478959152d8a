use Rattle.std.proofs.Common.{take}
use Rattle.rl_certificate.specs.Tables.{rows_of, IsRounding}
use Rattle.rl_certificate.proofs.rounds.round.Given as goal

abbrev pub invariant-loop-pair : goal.invariant-loop-pair
invariant-loop-pair l = IsRounding l.min l.homes l.count (rows_of l.initial.table) (rows_of l.table) (take l.pair-index l.unknown) l.still.items
