use Rattle.std.proofs.Common.{◌≡◌, drop}
use Rattle.rl_names.specs.Answers.{first_of}
use Rattle.rl_resolve.specs.Limits.{limit_at}
use Rattle.rl_resolve.proofs.limits.first_at.Given as goal

abbrev pub invariant-loop-one : goal.invariant-loop-one
invariant-loop-one l = first_of (limit_at l.step) (drop l.one-index l.all) ≡ first_of (limit_at l.step) l.all
