use Rattle.std.proofs.Common.{◌≡◌, ◌-◌, unwrap_or}
use Rattle.rl_replay.specs.OwnPicks.{picks_left}
use Rattle.rl_replay.proofs.host.next_pick.Given as goal

-- nothing that was passed gave a pick
abbrev pub invariant-loop-from : goal.invariant-loop-from
invariant-loop-from g l = picks_left (g.L.LookUps.machine l.look_ups) l.call l.from ≡ picks_left (g.L.LookUps.machine l.look_ups) l.call l.initial.from

abbrev pub decreases-loop-from : goal.decreases-loop-from
decreases-loop-from g l = 4294967296 - unwrap_or l.from 4294967296
