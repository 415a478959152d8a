use Rattle.rl_model.proofs.WellFormedLaws.{tree_keeps}
use Rattle.rl_model.proofs.laws.well_formed_trees_keep_rules.Goals as goal

pub returns : goal.returns
returns c = λ spec tests well. tree_keeps spec well tests
