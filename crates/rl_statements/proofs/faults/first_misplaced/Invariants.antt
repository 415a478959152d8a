use Rattle.std.proofs.Common.{◌≡◌, drop}
use Rattle.rl_code.specs.Reading.{first_misplaced}
use Rattle.rl_statements.proofs.faults.first_misplaced.Given as goal

abbrev pub invariant-loop-s : goal.invariant-loop-s
invariant-loop-s l = first_misplaced (drop l.s-index l.said) ≡ first_misplaced l.said
