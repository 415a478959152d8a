use Rattle.std.proofs.Common.{◌≡◌, drop}
use Rattle.rl_layout.specs.Told.{told}
use Rattle.rl_layout.specs.Books.{place_from}
use Rattle.rl_layout.proofs.books.place_from.Given as goal

abbrev pub invariant-loop-l : goal.invariant-loop-l
invariant-loop-l l = place_from 1 (told l.lists) l.list ≡ place_from l.place (told (drop l.l-index l.lists)) l.list
