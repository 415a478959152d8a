use Rattle.std.proofs.Common.{◌≡◌, ◌∷◌, pos, map, take}
use Rattle.rl_layout.proofs.statements.behind_zero.Given as goal

abbrev pub invariant-loop-count : goal.invariant-loop-count
invariant-loop-count l = l.elements.items ≡ pos 0 ∷ map pos (take l.count-index l.counts)
