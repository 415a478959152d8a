use Rattle.std.proofs.Common.{length, map, All}
use denote.Param.Always.{always_mut}
use Rattle.rl_run.specs.Picks.{Came}
use Rattle.rl_run.specs.Play.{Plays}
use Rattle.rl_run.specs.Turn.{calls}
use Rattle.rl_runner.specs.Sessions.{session_of, IsSound}
use Rattle.rl_arrays.specs.TableMachine.{machine}
use Rattle.rl_arrays.specs.Words.{natural}
use Rattle.rl_tables.specs.Steps.{IsId}
use Rattle.rl_runner.proofs.lists.call_list.Given as goal

-- What plays on from here plays on from the start.
abbrev pub invariant-loop-action : goal.invariant-loop-action
invariant-loop-action g l = record {
  callable : always_mut g.H.FnMut l.host;
  sound : IsSound l.tables l.settings l.s;
  actions : All IsId l.rest;
  plays : (last : _) (end : Came _) →
      Plays (λ p x r q. goal.H-step g p x r q) l.host (calls (machine l.tables) l.settings l.spot l.kind (map natural l.rest) (session_of (machine l.tables) l.s)) last end
      → Plays (λ p x r q. goal.H-step g p x r q) l.fn.host (calls (machine l.tables) l.settings l.spot l.kind (map natural l.list) (session_of (machine l.tables) l.fn.s)) last end;
}

abbrev pub decreases-loop-action : goal.decreases-loop-action
decreases-loop-action g l = length l.rest
