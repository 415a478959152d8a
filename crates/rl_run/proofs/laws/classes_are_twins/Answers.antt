use Rattle.std.specs.Prelude.{IsTrue}
use Rattle.rl_run.proofs.Stable.{classes_twin}
use Rattle.rl_run.proofs.laws.classes_are_twins.Goals as goal

pub returns : goal.returns
returns c = λ m reached class state a b. classes_twin m (λ q. IsTrue (reached q)) class state a b
