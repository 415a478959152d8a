use Rattle.std.proofs.Common.{◌≡◌, fold, map, drop}
use Rattle.rl_names.specs.Actions.{action_used}
use Rattle.rl_names.specs.Events.{seen}
use Rattle.rl_names.specs.TableForms.{texts}
use Rattle.rl_names.proofs.actions.all_used.Given as goal

abbrev pub invariant-loop-event : goal.invariant-loop-event
invariant-loop-event l =
    fold (action_used (texts l.entries)) l.list (map seen (drop l.event-index l.events)) ≡ fold (action_used (texts l.entries)) l.initial.list (map seen l.events)
