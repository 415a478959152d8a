use Rattle.std.proofs.Common.{◌≡◌, ℕ, List, take}
use Rattle.rl_names.specs.Entries.{is_entry}
use Rattle.rl_names.specs.TableForms.{has_in}
use Rattle.rl_names.proofs.instances.instances_of.Given as goal

abbrev pub invariant-loop-step : goal.invariant-loop-step
invariant-loop-step l = (m n : List ℕ) → has_in m l.instances n ≡ is_entry m (take l.step-index l.steps) n
