use Rattle.std.proofs.Common.{◌≡◌, map, take}
use Rattle.std.specs.List.{AllByRecursion}
use Rattle.rl_cread.specs.Contents.{IsPrintedNumber}
use Rattle.rl_cread.specs.Elements.{spaced_number}
use Rattle.rl_cread.proofs.elements.numbers_of.Given as goal

abbrev pub invariant-loop-part : goal.invariant-loop-part
invariant-loop-part l = (map (λ part. part.now) (take l.part-index l.parts) ≡ map spaced_number l.found) × AllByRecursion IsPrintedNumber l.found
