use Rattle.std.proofs.Common.{take}
use Rattle.rl_playback.specs.Books.{AreAnswersOf, HasNoCalls}
use Rattle.rl_playback.proofs.books.books_of.Given as goal

abbrev pub invariant-loop-line : goal.invariant-loop-line
invariant-loop-line l = AreAnswersOf (take l.line-index l.lines) l.books × HasNoCalls l.books
