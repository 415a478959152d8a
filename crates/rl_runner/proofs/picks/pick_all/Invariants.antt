use Rattle.std.proofs.Common.{◌≡◌, length}
use Rattle.rl_run.specs.Picks as says
use Rattle.rl_runner.specs.Sessions.{session_of, IsSound}
use Rattle.rl_arrays.specs.TableMachine.{machine}
use Rattle.rl_runner.proofs.picks.pick_all.Given as goal

abbrev pub invariant-loop-pick : goal.invariant-loop-pick
invariant-loop-pick l = record {
  says : says.pick_all (machine l.tables) l.settings l.spot l.stray l.action.0 l.rest (session_of (machine l.tables) l.s) ≡ says.pick_all (machine l.tables) l.settings l.spot l.stray l.action.0 l.picks (session_of (machine l.tables) l.fn.s);
  sound : IsSound l.tables l.settings l.s;
}

abbrev pub decreases-loop-pick : goal.decreases-loop-pick
decreases-loop-pick l = length l.rest
