-- How a runner's fields stand for its value.
use Rattle.std.specs.Prelude.{◌≡◌, Option, Some, None}
use Rattle.rl_runner.specs.Feeds.{over_after}
use Rattle.rl_run.specs.Fine.{IsKinded, IsFine}
use Rattle.rl_runner.specs.Sessions.{session_of, IsSound}
use Rattle.rl_runner.specs.RunnerValue.{RunnerValue}
use Rattle.rl_arrays.specs.TableMachine.{machine}
use Rattle.rl_run.specs.declared.calls.Outcome.{Outcome}
use Rattle.rl_runner.specs.declared.runner.Runner.TheInside.{Inside}

abbrev pub runner_value : Inside → RunnerValue
runner_value r = record {
  tables = r.tables.now;
  settings = r.settings;
  session = session_of (machine r.tables.now) r.session;
  over = r.over;
}

-- a run that is not over stands at a session that it may have
abbrev pub IfGoing : Option Outcome → Type 0 → Type 0
IfGoing None P = P
IfGoing (Some outcome) P = Unit {0}

-- only an end or a stop is kept
abbrev pub IsKept : Option Outcome → Type 0
IsKept None = Unit {0}
IsKept (Some outcome) = over_after outcome ≡ Some outcome

pub record IsRunner (r : Inside) : Type 0 where
  pub kinded : IsKinded (machine r.tables.now)
  pub sound : IsSound r.tables.now r.settings r.session
  pub fine : IfGoing r.over (IsFine (machine r.tables.now) (session_of (machine r.tables.now) r.session))
  pub kept : IsKept r.over
