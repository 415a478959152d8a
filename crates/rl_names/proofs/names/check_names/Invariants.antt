use Rattle.std.proofs.Common.{◌≡◌, ℕ, List, take, drop}
use Rattle.rl_names.specs.Names.{known, names_of, faults_behind, names_fault}
use Rattle.rl_names.specs.TableForms.{count_in}
use Rattle.rl_names.specs.Tables.{seen}
use Rattle.rl_names.proofs.names.check_names.Given as goal

abbrev pub invariant-loop-step : goal.invariant-loop-step
invariant-loop-step l = record {
  tables : seen l.tables ≡ known (take l.step-index l.steps);
  counts : (x : List ℕ) → count_in x l.tables.counts ≡ names_of x (take l.step-index l.steps);
  due : faults_behind (take l.step-index l.steps) (drop l.step-index l.steps) ≡ names_fault l.steps;
}
