use Rattle.std.proofs.Common.{◌≡◌, [], drop}
use Rattle.rl_layout.specs.Told.{told}
use Rattle.rl_layout.specs.Books.{with_members}
use Rattle.rl_layout.proofs.books.order_of.Given as goal

abbrev pub invariant-loop-list : goal.invariant-loop-list
invariant-loop-list l = with_members [] (told l.lists) ≡ with_members l.order.keys (told (drop l.list-index l.lists))
