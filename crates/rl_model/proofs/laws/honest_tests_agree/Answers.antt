use Rattle.rl_run.proofs.SameRuns.{same_runs}
use Rattle.rl_model.specs.Parts.{StandsAt}
use Rattle.rl_model.specs.Trees.{ConfAt, part_of, tree_machine}
use Rattle.rl_model.proofs.HonestTwins.{honest_twins}
use Rattle.rl_model.proofs.laws.honest_tests_agree.Goals as goal

pub returns-clause-twins : goal.returns-clause-twins
returns-clause-twins c = honest_twins

pub returns-clause-runs : goal.returns-clause-runs
returns-clause-runs c = λ spec tests others h h'. same_runs (tree_machine spec tests) (tree_machine spec others) (λ a. a) (StandsAt (ConfAt spec) (ConfAt spec) (part_of spec others) (λ e c. c)) (honest_twins spec tests others h h')
