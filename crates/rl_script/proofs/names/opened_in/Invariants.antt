use Rattle.std.proofs.Common.{◌≡◌, ℕ, List, take}
use Rattle.rl_replay.specs.Sessions.{is_opened, only}
use Rattle.rl_script.specs.NameTables.{has}
use Rattle.rl_script.proofs.names.opened_in.Given as goal

abbrev pub invariant-loop-line : goal.invariant-loop-line
invariant-loop-line l = (s : List ℕ) → has l.table s ≡ is_opened (only s (take l.line-index l.lines))
