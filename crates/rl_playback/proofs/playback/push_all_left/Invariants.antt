use Rattle.std.proofs.Common.{◌≡◌, ◌++◌, take}
use Rattle.rl_playback.specs.Deeds.{left_texts}
use Rattle.rl_playback.proofs.playback.push_all_left.Given as goal

abbrev pub invariant-loop-place : goal.invariant-loop-place
invariant-loop-place l = l.log.text.items ≡ l.initial.log.text.items ++ left_texts l.sessions.tables (take l.place l.sessions.all)
