use Rattle.std.proofs.Common.{length}
use denote.Param.Always.{always_mut}
use Rattle.rl_run.specs.Play.{Plays}
use Rattle.rl_run.specs.Turn.{conditions}
use Rattle.rl_runner.specs.Sessions.{session_of}
use Rattle.rl_arrays.specs.TableMachine.{machine}
use Rattle.rl_runner.proofs.turns.ask_all.Given as goal

abbrev pub invariant-loop-condition : goal.invariant-loop-condition
invariant-loop-condition g l = record {
  callable : always_mut g.H.FnMut l.host;
  plays : (last : _) (end : _) →
      Plays (λ p x r q. goal.H-step g p x r q) l.host (conditions l.spot (session_of (machine l.tables) l.s) l.asked l.rest l.hold) last end
      → Plays (λ p x r q. goal.H-step g p x r q) l.fn.host (conditions l.spot (session_of (machine l.tables) l.s) l.asked l.all 0) last end;
}

abbrev pub decreases-loop-condition : goal.decreases-loop-condition
decreases-loop-condition g l = length l.rest
