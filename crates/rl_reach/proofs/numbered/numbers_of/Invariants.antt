use Rattle.std.proofs.Common.{◌≡◌, map, take}
use Rattle.rl_reach.specs.Places.{number_in}
use Rattle.rl_reach.proofs.numbered.numbers_of.Given as goal

abbrev pub invariant-loop-place : goal.invariant-loop-place
invariant-loop-place l = l.numbers.items ≡ map (number_in l.places.keys) (take l.place-index l.listed)
