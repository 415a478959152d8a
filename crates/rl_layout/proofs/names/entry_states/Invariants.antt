use Rattle.std.proofs.Common.{◌≡◌, ◌∷◌, pos, map, take}
use Rattle.rl_layout.proofs.names.entry_states.Given as goal

abbrev pub invariant-loop-state : goal.invariant-loop-state
invariant-loop-state l = l.elements.items ≡ pos 0 ∷ map pos (take l.state-index l.states)
