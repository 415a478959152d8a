use Rattle.std.proofs.Common.{◌≡◌, map, drop}
use Rattle.std.specs.List.{list_any}
use Rattle.rl_names.specs.Events.{seen as shown}
use Rattle.rl_names.specs.Names.{embeds_statements}
use Rattle.rl_names.specs.Tables.{seen}
use Rattle.rl_names.proofs.brought.any_statements.Given as goal

abbrev pub invariant-loop-event : goal.invariant-loop-event
invariant-loop-event l = list_any (embeds_statements (seen l.tables) l.machine) (map shown (drop l.event-index l.events)) ≡ list_any (embeds_statements (seen l.tables) l.machine) (map shown l.events)
