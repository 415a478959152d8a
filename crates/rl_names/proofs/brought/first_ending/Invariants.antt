use Rattle.std.proofs.Common.{◌≡◌, fold, map, drop}
use Rattle.rl_names.specs.Events.{seen as shown}
use Rattle.rl_names.specs.Names.{earlier, ending_of, first_ending}
use Rattle.rl_names.specs.Tables.{seen}
use Rattle.rl_names.proofs.brought.first_ending.Given as goal

abbrev pub invariant-loop-event : goal.invariant-loop-event
invariant-loop-event l = fold (λ found e. earlier found (ending_of (seen l.tables) l.machine e)) l.found (map shown (drop l.event-index l.events)) ≡ first_ending (seen l.tables) l.machine (map shown l.events)
