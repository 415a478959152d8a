use Rattle.std.proofs.Common.{◌∷◌, []}
use Rattle.rl_draft.specs.declared.expression.Leaf.TheVariants as leaf
use Rattle.rl_leaves.specs.Forms.{IsLeaf}
use Rattle.rl_leaves.proofs.FormLaws.{made_form, tested_form}
use Rattle.rl_leaves.proofs.key.leaf_between.Goals as goal

pub returns-clause-form : goal.returns-clause-form
returns-clause-form c =
    made_form (IsLeaf c.args.alphabet) (leaf.Set (record { lo = c.args.lo.0; hi = c.args.hi.0 } ∷ [])) c.between.result
    (tested_form c.args.alphabet c.args.lo.0 c.args.hi.0 c.requires.lower c.requires.ordered c.requires.upper) c.between.ensures
