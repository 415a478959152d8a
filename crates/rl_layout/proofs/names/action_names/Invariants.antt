use Rattle.std.proofs.Common.{◌≡◌, ◌∷◌, [], map, take}
use Rattle.rl_layout.specs.SpecArrays.{name_of}
use Rattle.rl_layout.proofs.names.action_names.Given as goal

abbrev pub invariant-loop-action : goal.invariant-loop-action
invariant-loop-action l = l.names.items ≡ [] ∷ map (name_of l.actions) (take l.action-index l.order)
