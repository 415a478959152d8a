use Rattle.std.proofs.Common.{◌≡◌, fold, map, drop}
use Rattle.rl_names.specs.Events.{seen}
use Rattle.rl_names.specs.Priorities.{priority_used}
use Rattle.rl_names.specs.TableForms.{texts}
use Rattle.rl_names.proofs.priorities.all_used.Given as goal

abbrev pub invariant-loop-event : goal.invariant-loop-event
invariant-loop-event l = fold priority_used (texts l.names) (map seen (drop l.event-index l.events)) ≡ fold priority_used (texts l.initial.names) (map seen l.events)
