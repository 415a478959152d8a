use Rattle.std.proofs.Common.{◌≡◌, drop}
use Rattle.rl_reach.specs.Places.{with_places}
use Rattle.rl_reach.proofs.places.add_places.Given as goal

abbrev pub invariant-loop-place : goal.invariant-loop-place
invariant-loop-place l = with_places l.initial.places.keys l.more ≡ with_places l.places.keys (drop l.place-index l.more)
