use Rattle.std.proofs.Common.{◌≡◌, ◌++◌, pos, map, take}
use Rattle.rl_layout.specs.Books.{number_in}
use Rattle.rl_layout.proofs.books.push_members.Given as goal

abbrev pub invariant-loop-action : goal.invariant-loop-action
invariant-loop-action l = l.elements.items ≡ l.initial.elements.items ++ map (λ a. pos (number_in l.order.keys a.0)) (take l.action-index l.list)
