use Rattle.std.proofs.Common.{◌≡◌, drop}
use Rattle.rl_rewrite.specs.Measures.{IsCut, items_size}
use Rattle.rl_rewrite.proofs.sizes.items_of.Given as goal

abbrev pub invariant-loop-item : goal.invariant-loop-item
invariant-loop-item l = IsCut l.s × (items_size l.s (drop l.item-index l.items) ≡ items_size l.initial.s l.items)
