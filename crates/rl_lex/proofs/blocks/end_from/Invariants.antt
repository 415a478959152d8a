use Rattle.std.proofs.Common.{◌≡◌, ◌+◌, ◌-◌, ◌≤◌, length}
use Rattle.rl_lexical.specs.Parts.{end_from}
use Rattle.rl_lex.specs.Room.{HasRoom}
use Rattle.rl_lex.specs.Walks.{seen}
use Rattle.rl_lex.proofs.blocks.end_from.Given as goal

abbrev pub invariant-loop-turn : goal.invariant-loop-turn
invariant-loop-turn l = record {
  answer : end_from (length l.fn.start.rest.now - l._turn) l.fn.shape l.fn.opening (seen l.walk) ≡ end_from (length l.fn.start.rest.now) l.fn.shape l.fn.opening (seen l.fn.start);
  offset : l.walk.at.from + length l.walk.rest.now ≡ l.fn.start.at.from + length l.fn.start.rest.now;
  from : l.fn.start.at.from ≤ l.walk.at.from;
  room : HasRoom l.walk.at (length l.walk.rest.now);
}
