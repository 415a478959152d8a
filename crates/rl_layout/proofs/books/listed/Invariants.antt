use Rattle.std.proofs.Common.{◌≡◌, take}
use Rattle.rl_layout.proofs.books.listed.Given as goal

abbrev pub invariant-loop-i : goal.invariant-loop-i
invariant-loop-i l = l.actions.items ≡ take l.i l.order.keys
