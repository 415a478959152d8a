use Rattle.std.proofs.Common.{◌≡◌, ℕ, List, fold, drop}
use Rattle.rl_names.specs.Frames.{alphabet_behind, alphabet_of}
use Rattle.rl_names.specs.TableForms.{alphabet_in}
use Rattle.rl_names.proofs.alphabets.alphabets_of.Given as goal

abbrev pub invariant-loop-step : goal.invariant-loop-step
invariant-loop-step l = record {
  read : (x : List ℕ) → fold (alphabet_behind x) (alphabet_in x l.table) (drop l.step-index l.steps) ≡ alphabet_of x l.steps;
}
