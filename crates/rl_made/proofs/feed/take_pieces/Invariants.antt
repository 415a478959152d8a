use Rattle.std.proofs.Common.{◌≡◌, ◌≤◌, ◌+◌, ◌-◌, false, length, take, drop}
use Rattle.rl_playback.specs.Defaults.{default_settings}
use Rattle.rl_made.specs.Made.{pieces_from, pieces_of}
use Rattle.rl_made.specs.Stands.{Stands}
use Rattle.rl_made.proofs.feed.take_pieces.Given as goal

abbrev pub invariant-pieces : goal.invariant-pieces
invariant-pieces l = record {
  within : l.from ≤ length l.input;
  few : l.pieces ≤ l.from;
  tables : l.tally.names.tables.now ≡ l.initial.tally.names.tables.now;
  stands : Stands l.initial.tally.names.tables.now default_settings l.name false (take l.from l.input) l.tally l.sessions;
  count : l.pieces + length (pieces_from (length l.input - l.from) l.pieces (drop l.from l.input)) ≡ length (pieces_of l.input);
}

abbrev pub decreases-pieces : goal.decreases-pieces
decreases-pieces l = length l.input - l.from
