use Rattle.std.proofs.Common.{◌≡◌, drop}
use Rattle.std.specs.List.{filter}
use Rattle.rl_reach.specs.Places.{with_places}
use Rattle.rl_reach.specs.Walks.{is_in_half}
use Rattle.rl_reach.proofs.numbered.add_those.Given as goal

abbrev pub invariant-loop-i : goal.invariant-loop-i
invariant-loop-i l =
    with_places l.initial.places.keys (filter (is_in_half l.root l.fin) l.met.keys)
    ≡ with_places l.places.keys (filter (is_in_half l.root l.fin) (drop l.i l.met.keys))
