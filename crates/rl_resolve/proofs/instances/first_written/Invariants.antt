use Rattle.std.proofs.Common.{◌≡◌, drop}
use Rattle.rl_names.specs.Answers.{first_of}
use Rattle.rl_resolve.specs.Resolving.{written_fault}
use Rattle.rl_resolve.proofs.instances.first_written.Given as goal

abbrev pub invariant-loop-step : goal.invariant-loop-step
invariant-loop-step l = first_of (λ s. written_fault l.steps s.machine s.statement) (drop l.step-index l.steps) ≡ first_of (λ s. written_fault l.steps s.machine s.statement) l.steps
