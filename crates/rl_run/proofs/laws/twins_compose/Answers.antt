use Rattle.std.specs.Prelude.{IsTrue}
use Rattle.rl_run.proofs.Compose.{twin_after}
use Rattle.rl_run.proofs.laws.twins_compose.Goals as goal

pub returns : goal.returns
returns c = λ m w v ρ σ stands follows a b. twin_after m w v ρ σ (λ q p. IsTrue (stands q p)) (λ q p. IsTrue (follows q p)) a b
