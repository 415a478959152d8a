use Rattle.std.proofs.Common.{◌≡◌, ◌∷◌, pos, take}
use Rattle.std.specs.List.{flat_map}
use Rattle.rl_layout.specs.Told.{told}
use Rattle.rl_layout.specs.Books.{elements_of}
use Rattle.rl_layout.proofs.books.actions_of.Given as goal

abbrev pub invariant-loop-list : goal.invariant-loop-list
invariant-loop-list l = l.elements.items ≡ pos 0 ∷ flat_map (elements_of l.order.keys) (told (take l.list-index l.lists))
