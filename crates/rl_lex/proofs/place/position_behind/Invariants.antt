use Rattle.std.proofs.Common.{◌≡◌, ◌+◌, ◌≤◌, drop}
use Rattle.rl_lexical.specs.Places.{position_behind}
use Rattle.rl_lex.proofs.place.position_behind.Given as goal

abbrev pub invariant-loop-b : goal.invariant-loop-b
invariant-loop-b l = record {
  value : position_behind l.position (drop l.b-index l.text) ≡ position_behind l.fn.at l.text;
  offset : l.position.from ≡ l.fn.at.from + l.b-index;
  line : l.position.place.line ≤ l.fn.at.place.line + l.b-index;
  column : l.position.place.col ≤ l.fn.at.place.col + l.b-index;
}
