use Rattle.std.proofs.Common.{◌≡◌, map, take}
use Rattle.rl_min.specs.Numbering.{number_in}
use Rattle.rl_min.proofs.numbering.numbers_of.Given as goal

abbrev pub invariant-loop-class : goal.invariant-loop-class
invariant-loop-class l = l.numbers.items ≡ map (number_in l.met.keys) (take l.class-index l.classes)
