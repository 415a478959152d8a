use Rattle.std.proofs.Common.{◌≡◌, drop}
use Rattle.rl_layout.specs.Books.{with_actions}
use Rattle.rl_layout.proofs.books.add_actions.Given as goal

abbrev pub invariant-loop-action : goal.invariant-loop-action
invariant-loop-action l = with_actions l.initial.order.keys l.list ≡ with_actions l.order.keys (drop l.action-index l.list)
