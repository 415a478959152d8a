use Rattle.std.proofs.Common.{◌≡◌, take}
use Rattle.rl_certificate.specs.Steps.{row_of}
use Rattle.rl_certificate.proofs.steps.targets_of.Given as goal

-- the steps on the letters so far
abbrev pub invariant-loop-letter : goal.invariant-loop-letter
invariant-loop-letter l = l.targets.items ≡ row_of l.min (take l.letter-index l.letters) l.state
