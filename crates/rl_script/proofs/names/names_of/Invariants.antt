use Rattle.std.proofs.Common.{◌≡◌, ℕ, List, take}
use Rattle.rl_replay.specs.Sessions.{has_name}
use Rattle.rl_script.specs.NameTables.{has}
use Rattle.rl_script.proofs.names.names_of.Given as goal

abbrev pub invariant-loop-name : goal.invariant-loop-name
invariant-loop-name l = (name : List ℕ) → has l.table name ≡ has_name (take l.name-index l.name-items) name
