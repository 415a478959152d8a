use Rattle.std.proofs.Common.{◌≡◌, take, map}
use Rattle.rl_sets.specs.Sets.{joined}
use Rattle.rl_labels.specs.Carries.{tables_of}
use Rattle.rl_labels.proofs.carry.all_priors.Given as goal

abbrev pub invariant-loop-part : goal.invariant-loop-part
invariant-loop-part l = l.priors.items ≡ joined (map tables_of (take l.part-index l.parts))
