-- What contracts see of a runner.
use Rattle.std.specs.Prelude.{ℕ, Option}
use Rattle.rl_run.specs.declared.sessions.Settings.{Settings}
use Rattle.rl_run.specs.declared.calls.Outcome.{Outcome}
use Rattle.rl_run.specs.Machine.{Session}
use Rattle.rl_arrays.specs.declared.arrays.Arrays.{Arrays}

pub record RunnerValue : Type 0 where
  pub tables : Arrays
  pub settings : Settings
  pub session : Session ℕ
  pub over : Option Outcome
