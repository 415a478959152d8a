use Rattle.std.proofs.Common.{ℕ, length}
use Rattle.rl_run.proofs.SameRuns.{same_runs}
use Rattle.rl_model.specs.Parts.{StandsAt, machine}
use Rattle.rl_model.specs.Trees.{ConfAt, part_of, context_of, tree_machine}
use Rattle.rl_model.proofs.PartTwins.{part_twin}
use Rattle.rl_model.proofs.laws.followers_run_as_trees.Goals as goal

pub returns-clause-twins : goal.returns-clause-twins
returns-clause-twins c = λ spec tests part name follows. part_twin (ConfAt spec) (λ e. ℕ) (part_of spec tests) part name follows (length spec.entries) (context_of spec)

pub returns-clause-runs : goal.returns-clause-runs
returns-clause-runs c = λ spec tests part name follows. same_runs (tree_machine spec tests) (machine (λ e. ℕ) part (length spec.entries) (context_of spec)) (λ a. a)
    (StandsAt (ConfAt spec) (λ e. ℕ) part name)
    (part_twin (ConfAt spec) (λ e. ℕ) (part_of spec tests) part name follows (length spec.entries) (context_of spec))
