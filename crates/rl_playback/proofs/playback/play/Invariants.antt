use Rattle.std.proofs.Common.{take}
use Rattle.rl_playback.specs.Stands.{Stands}
use Rattle.rl_playback.proofs.playback.play.Given as goal

abbrev pub invariant-loop-place : goal.invariant-loop-place
invariant-loop-place l = Stands l.settings l.lines (take l.place l.lines) l.tables l.log l.sessions
