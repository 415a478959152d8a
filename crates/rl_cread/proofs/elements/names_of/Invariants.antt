use Rattle.std.proofs.Common.{◌≡◌, map, take}
use Rattle.std.specs.List.{AllByRecursion}
use Rattle.rl_cread.specs.Contents.{IsPrintedName}
use Rattle.rl_cread.specs.Elements.{spaced_name}
use Rattle.rl_cread.proofs.elements.names_of.Given as goal

abbrev pub invariant-loop-part : goal.invariant-loop-part
invariant-loop-part l = (map (λ part. part.now) (take l.part-index l.parts) ≡ map spaced_name l.found) × AllByRecursion IsPrintedName l.found
