use Rattle.std.proofs.Common.{◌∙◌}
use Rattle.rl_names.proofs.TableLaws.{any_text}
use Rattle.rl_names.proofs.texts.has.Goals as goal

pub returns : goal.returns
returns c = c.contains.ensures ∙ any_text c.args.text.now c.args.table.now.keys
