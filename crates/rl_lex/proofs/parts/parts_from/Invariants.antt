use Rattle.std.proofs.Common.{◌≡◌, ◌-◌, true, length}
use Rattle.rl_lexical.specs.Parts.{parts_from}
use Rattle.rl_lex.specs.Regions.{joined_parts}
use Rattle.rl_lex.specs.Room.{HasRoom}
use Rattle.rl_lex.proofs.parts.parts_from.Given as goal

abbrev pub invariant-loop-turn : goal.invariant-loop-turn
invariant-loop-turn l = record {
  answer : joined_parts l.found (parts_from (length l.text - l._turn) l.fresh l.at l.rest) ≡ parts_from (length l.text) true l.fn.start l.text;
  room : HasRoom l.at (length l.rest);
}
