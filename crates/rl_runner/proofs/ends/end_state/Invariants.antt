use Rattle.std.proofs.Common.{◌≤◌, ℕ, true}
use denote.Param.Always.{always_mut}
use Rattle.rl_run.specs.Fine.{IsFine, weight}
use Rattle.rl_run.specs.Machine.{keep}
use Rattle.rl_run.specs.Play.{Plays}
use Rattle.rl_run.specs.Run.{Rest, turns}
use Rattle.rl_runner.specs.Sessions.{session_of, IsSound}
use Rattle.rl_runner.specs.Feeds.{closed_of}
use Rattle.rl_arrays.specs.TableMachine.{machine}
use Rattle.rl_runner.proofs.ends.end_state.Given as goal

-- What plays on from here plays on from the start, with some turns more.
abbrev pub invariant-loop-s : goal.invariant-loop-s
invariant-loop-s g l = record {
  callable : always_mut g.H.FnMut l.host;
  sound : IsSound l.tables l.settings l.s;
  fine : IsFine (machine l.tables) (session_of (machine l.tables) l.s);
  base : l.base ≤ keep l.settings (session_of (machine l.tables) l.s);
  plays : (n : ℕ) (last : _) (r : Rest _) →
      Plays (λ p x r q. goal.H-step g p x r q) l.host
      (turns true (machine l.tables) l.settings (closed_of l.width l.base l.window) n (session_of (machine l.tables) l.s)) last r
      → (k : ℕ)
      × Plays (λ p x r q. goal.H-step g p x r q) l.fn.host
      (turns true (machine l.tables) l.settings (closed_of l.width l.base l.window) k (session_of (machine l.tables) l.fn.s)) last r;
}

abbrev pub decreases-loop-s : goal.decreases-loop-s
decreases-loop-s g l = weight (session_of (machine l.tables) l.s)
