use Rattle.std.specs.Prelude.{IsTrue}
use Rattle.rl_run.proofs.SameRuns.{same_runs}
use Rattle.rl_run.proofs.laws.twins_make_same_runs.Goals as goal

pub returns : goal.returns
returns c = λ m w ρ stands twin. same_runs m w ρ (λ q p. IsTrue (stands q p)) twin
