-- Machines without a state too many.
use Rattle.std.specs.Prelude.{◌≡◌, ℕ, ◌<◌, List, length}
use Rattle.rl_types.specs.declared.numbers.Letter.{Letter}
use Rattle.rl_run.specs.Classes.{AreAlike}
use Rattle.rl_model.specs.Parts.{Context}
use Rattle.rl_minimal.specs.Minimal.{Minimal}
use Rattle.rl_minimal.specs.Machine.{min_machine}
use Rattle.rl_certificate.specs.Walks.{LeadsTo}

-- some word leads to the state from an entry's
pub record IsReached (m : Minimal) (i : ℕ) : Type 0 where
  pub entry : ℕ
  pub word : List Letter
  pub leads : LeadsTo m entry word i

-- Each state but Error is reached, and no two of them are alike.
pub record IsReduced (m : Minimal) : Type 0 where
  pub reached : (i : ℕ) → 0 < i → i < length m.states → IsReached m i
  pub unlike : (context : Context) (i j : ℕ) → 0 < i → i < length m.states → 0 < j → j < length m.states → AreAlike (min_machine m context) i j → i ≡ j
