use Rattle.rl_leaves.specs.BuiltIns.{built_in_leaf}
use Rattle.rl_leaves.specs.Forms.{IsLeaf}
use Rattle.rl_leaves.proofs.BuiltInLaws.{built_in_form}
use Rattle.rl_leaves.proofs.FormLaws.{made_form}
use Rattle.rl_leaves.proofs.built_in.built_in_leaf.Goals as goal

pub returns-clause-form : goal.returns-clause-form
returns-clause-form c =
    made_form (IsLeaf c.args.alphabet) (built_in_leaf c.args.alphabet c.args.built_in) c.keys_of.result
    (built_in_form c.args.alphabet c.args.built_in) c.keys_of.ensures
