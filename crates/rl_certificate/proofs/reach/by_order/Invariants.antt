use Rattle.std.proofs.Common.{◌-◌, length}
use Rattle.rl_certificate.specs.Reaches.{IsSearched}
use Rattle.rl_certificate.proofs.reach.by_order.Given as goal

abbrev pub invariant-words : goal.invariant-words
invariant-words l = IsSearched l.min l.met.items l.place

abbrev pub decreases-words : goal.decreases-words
decreases-words l = length l.min.states - l.place
