use Rattle.std.proofs.Common.{◌≡◌, pos, map, take}
use Rattle.rl_layout.specs.Told.{told}
use Rattle.rl_layout.specs.StateArrays.{value_of}
use Rattle.rl_layout.proofs.states.by_state.Given as goal

abbrev pub invariant-loop-state : goal.invariant-loop-state
invariant-loop-state l = l.values.items ≡ map (λ s. pos (value_of l.which (told l.lists) s)) (take l.state-index l.states)
