use Rattle.std.proofs.Common.{◌≡◌, ◌+◌, map, drop}
use Rattle.rl_names.specs.Events.{seen as shown}
use Rattle.rl_names.specs.Names.{uses_fault, codes_in}
use Rattle.rl_names.specs.Tables.{seen}
use Rattle.rl_names.proofs.names.all_used.Given as goal

abbrev pub invariant-loop-event : goal.invariant-loop-event
invariant-loop-event l = record {
  due : uses_fault (seen l.tables) l.machine l.behind (map shown (drop l.event-index l.events)) ≡ uses_fault (seen l.tables) l.machine l.count (map shown l.events);
  count : l.behind + codes_in (map shown (drop l.event-index l.events)) ≡ l.count + codes_in (map shown l.events);
}
