use Rattle.std.proofs.Common.{◌≡◌, ◌∷◌, [], map, take}
use Rattle.rl_layout.specs.SpecArrays.{name_of}
use Rattle.rl_layout.proofs.names.condition_names.Given as goal

abbrev pub invariant-loop-action : goal.invariant-loop-action
invariant-loop-action l = l.names.items ≡ [] ∷ map (λ a. name_of l.actions a.0) (take l.action-index l.conditions)
