use Rattle.rl_leaves.specs.Ranges.{character_ranges}
use Rattle.rl_leaves.specs.Forms.{AreRanges}
use Rattle.rl_leaves.proofs.FormLaws.{made_form, character_form}
use Rattle.rl_leaves.proofs.ranges.character_ranges.Goals as goal

pub returns-clause-form : goal.returns-clause-form
returns-clause-form c =
    made_form (AreRanges c.args.alphabet) (character_ranges c.args.alphabet c.args.folds c.args.byte) c.named_ranges.result
    (character_form c.args.alphabet c.args.folds c.args.byte) c.named_ranges.ensures
