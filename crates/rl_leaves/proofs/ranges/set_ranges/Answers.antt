use Rattle.rl_leaves.specs.CharacterSets.{has}
use Rattle.std.proofs.Common.{◌≡◌, ℤ, ◌&&◌}
use Rattle.std.specs.Prelude.{List}
use Rattle.rl_types.specs.Alphabet.{has_key}
use Rattle.rl_types.specs.KeyRange.{Range}
use Rattle.rl_leaves.specs.Ranges.{set_ranges, in_ranges}
use Rattle.rl_leaves.specs.Forms.{AreRanges}
use Rattle.rl_leaves.proofs.FormLaws.{made_form}
use Rattle.rl_leaves.proofs.SetForms.{set_form, sets_have}
use Rattle.rl_leaves.proofs.ranges.set_ranges.Goals as goal

pub returns-clause-form : goal.returns-clause-form
returns-clause-form c =
    made_form (AreRanges c.args.alphabet) (set_ranges c.args.alphabet c.args.folds c.args.set.now) c.ranges_of.result
    (set_form c.args.alphabet c.args.folds c.args.set.now) c.ranges_of.ensures

pub returns-clause-keys : goal.returns-clause-keys
returns-clause-keys c =
    let P : List Range → Type 0 = λ rs. (key : ℤ) → in_ranges key rs ≡ (has_key c.args.alphabet key && has c.args.alphabet c.args.folds c.args.set.now key) in
    made_form P (set_ranges c.args.alphabet c.args.folds c.args.set.now) c.ranges_of.result
    (sets_have c.args.alphabet c.args.folds c.args.set.now) c.ranges_of.ensures
