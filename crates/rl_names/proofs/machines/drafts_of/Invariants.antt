use Rattle.std.proofs.Common.{◌≡◌, drop}
use Rattle.rl_names.specs.Answers.{each}
use Rattle.rl_names.specs.Drafts.{draft_of}
use Rattle.rl_names.specs.TableForms.{own_in, pointed}
use Rattle.rl_names.proofs.ResultLaws.{behind}
use Rattle.rl_names.proofs.machines.drafts_of.Given as goal

abbrev pub invariant-loop-machine : goal.invariant-loop-machine
invariant-loop-machine l =
    behind l.found (each (λ m. draft_of (pointed (own_in m l.groups)) m) (drop l.machine-index l.machines)) ≡ each (λ m. draft_of (pointed (own_in m l.groups)) m) l.machines
