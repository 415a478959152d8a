use Rattle.std.proofs.Common.{◌≡◌, [], drop}
use Rattle.rl_layout.specs.Told.{told}
use Rattle.rl_layout.specs.Books.{with_uses}
use Rattle.rl_layout.proofs.books.lists_of.Given as goal

abbrev pub invariant-loop-state : goal.invariant-loop-state
invariant-loop-state l = with_uses [] l.states ≡ with_uses (told l.lists.items) (drop l.state-index l.states)
