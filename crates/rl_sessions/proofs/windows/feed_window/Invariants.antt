use Rattle.std.proofs.Common.{◌≡◌, None}
use Rattle.rl_run.specs.Fine.{weight}
use Rattle.rl_runner.specs.Feeds.{window_of}
use Rattle.rl_arrays.specs.TableMachine.{machine}
use Rattle.rl_sessions.proofs.Loops.{Behind}
use Rattle.rl_sessions.proofs.windows.feed_window.Given as goal

abbrev pub invariant-loop-outcome : goal.invariant-loop-outcome
invariant-loop-outcome g l =
    goal.H-IsAlwaysCallable g l.host
    × (l.runner.over ≡ None)
    × (l.runner.tables ≡ l.fn.runner.tables)
    × (l.runner.settings ≡ l.fn.runner.settings)
    × Behind (goal.H-step g) (machine l.fn.runner.tables) l.fn.runner.settings l.base
    (window_of (machine l.fn.runner.tables).width l.base l.window) l.fn.host l.fn.runner.session l.host l.runner.session

abbrev pub decreases-loop-outcome : goal.decreases-loop-outcome
decreases-loop-outcome g l = weight l.runner.session
