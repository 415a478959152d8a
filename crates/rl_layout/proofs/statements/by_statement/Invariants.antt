use Rattle.std.proofs.Common.{◌≡◌, ◌∷◌, pos, map, take}
use Rattle.std.specs.List.{flat_map}
use Rattle.rl_layout.specs.SpecArrays.{element_of, statements_of}
use Rattle.rl_layout.proofs.statements.by_statement.Given as goal

abbrev pub invariant-loop-action : goal.invariant-loop-action
invariant-loop-action l = l.elements.items ≡ pos 0 ∷ flat_map (λ a. map (element_of l.which) (statements_of l.actions a)) (take l.action-index l.order)
