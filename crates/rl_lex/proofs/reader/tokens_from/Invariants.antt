use Rattle.std.proofs.Common.{◌≡◌, ◌-◌, length}
use Rattle.rl_lexical.specs.Contexts.{first_context}
use Rattle.rl_lexical.specs.Tokens.{tokens_from}
use Rattle.rl_lex.specs.Room.{HasRoom}
use Rattle.rl_lex.specs.Steps.{joined}
use Rattle.rl_lex.proofs.reader.tokens_from.Given as goal

abbrev pub invariant-loop-turn : goal.invariant-loop-turn
invariant-loop-turn l = record {
  answer : joined l.found (tokens_from (length l.text - l._turn) l.context l.at l.rest) ≡ tokens_from (length l.text) first_context l.fn.start l.text;
  room : HasRoom l.at (length l.rest);
}
