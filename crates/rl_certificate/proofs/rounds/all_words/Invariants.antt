use Rattle.std.proofs.Common.{◌+◌, ◌<◌, length}
use Rattle.rl_certificate.specs.Tables.{rows_of, IsSquare, AreKnown, AreOpen}
use Rattle.rl_certificate.proofs.rounds.all_words.Given as goal

abbrev pub invariant-rounds : goal.invariant-rounds
invariant-rounds l = record {
  square : IsSquare (length l.min.states) (rows_of l.table);
  known : AreKnown l.min l.homes l.count (rows_of l.table);
  unknown : AreOpen l.min (rows_of l.table) l.unknown.items;
  fits : l.count + length l.unknown.items < 18446744073709551616;
}

abbrev pub decreases-rounds : goal.decreases-rounds
decreases-rounds l = length l.unknown.items
