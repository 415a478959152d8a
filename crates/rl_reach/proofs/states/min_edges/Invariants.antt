use Rattle.std.proofs.Common.{◌≡◌, map, take}
use Rattle.rl_reach.specs.States.{min_edge}
use Rattle.rl_reach.proofs.states.min_edges.Given as goal

abbrev pub invariant-loop-e : goal.invariant-loop-e
invariant-loop-e l = l.made.items ≡ map (min_edge l.places.keys l.entry) (take l.e-index l.edges)
