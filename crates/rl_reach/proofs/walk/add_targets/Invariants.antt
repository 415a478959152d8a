use Rattle.std.proofs.Common.{◌≡◌, map, drop}
use Rattle.rl_reach.specs.Places.{with_places}
use Rattle.rl_reach.specs.Walks.{target_of}
use Rattle.rl_reach.proofs.walk.add_targets.Given as goal

abbrev pub invariant-loop-e : goal.invariant-loop-e
invariant-loop-e l =
    with_places l.initial.met.keys (map (target_of l.root l.place.entry) l.e-items)
    ≡ with_places l.met.keys (map (target_of l.root l.place.entry) (drop l.e-index l.e-items))
