use Rattle.std.proofs.Common.{◌≡◌, ℕ, map}
use Rattle.std.specs.List.{range_with_len}
use Rattle.rl_certificate.specs.Steps.{row_of}
use Rattle.rl_certificate.proofs.steps.all_targets.Given as goal

-- the rows of the states so far
abbrev pub invariant-loop-state : goal.invariant-loop-state
invariant-loop-state l = map (λ row. row.items) l.targets.items ≡ map (λ (i : ℕ). row_of l.min l.letters i) (range_with_len 0 l.state)
