use Rattle.std.proofs.Common.{◌≡◌, ◌∷◌, map, take}
use Rattle.rl_reach.specs.States.{error_state, state_for}
use Rattle.rl_reach.proofs.states.states_for.Given as goal

abbrev pub invariant-loop-i : goal.invariant-loop-i
invariant-loop-i l = l.states.items ≡ error_state ∷ map (state_for l.root l.places.keys) (take l.i l.places.keys)
