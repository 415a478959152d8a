use Rattle.std.proofs.Common.{◌≡◌, map, drop}
use Rattle.rl_names.specs.Answers.{first_of}
use Rattle.rl_names.specs.Checks.{leaf_fault}
use Rattle.rl_names.specs.Events.{seen}
use Rattle.rl_names.specs.TableForms.{has_in}
use Rattle.rl_names.proofs.checks.leaves.Given as goal

abbrev pub invariant-loop-event : goal.invariant-loop-event
invariant-loop-event l =
    first_of (leaf_fault l.alphabet (has_in l.machine l.instances)) (map seen (drop l.event-index l.events))
    ≡ first_of (leaf_fault l.alphabet (has_in l.machine l.instances)) (map seen l.events)
