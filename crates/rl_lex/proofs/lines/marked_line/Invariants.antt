use Rattle.std.proofs.Common.{◌≡◌, true, length}
use Rattle.rl_lexical.specs.Parts.{marked_line}
use Rattle.rl_lex.specs.Room.{HasRoom}
use Rattle.rl_lex.proofs.lines.marked_line.Given as goal

abbrev pub invariant-loop-rest : goal.invariant-loop-rest
invariant-loop-rest l = record {
  value : marked_line l.is_line l.at l.rest ≡ marked_line true l.fn.start l.text;
  room : HasRoom l.at (length l.rest);
}

abbrev pub decreases-loop-rest : goal.decreases-loop-rest
decreases-loop-rest l = length l.rest
