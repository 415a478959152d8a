use Rattle.std.proofs.Common.{◌≡◌, ◌++◌, ℕ, List, filter, drop}
use Rattle.rl_names.specs.Frames.{is_of}
use Rattle.rl_names.specs.TableForms.{own_in, pointed}
use Rattle.rl_names.proofs.groups.groups_of.Given as goal

abbrev pub invariant-loop-step : goal.invariant-loop-step
invariant-loop-step l = record {
  read : (x : List ℕ) → pointed (own_in x l.groups) ++ filter (is_of x) (drop l.step-index l.steps) ≡ filter (is_of x) l.steps;
}
