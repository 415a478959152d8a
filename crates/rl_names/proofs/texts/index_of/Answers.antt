use Rattle.std.proofs.Common.{◌∙◌}
use Rattle.rl_names.proofs.TableLaws.{position_text}
use Rattle.rl_names.proofs.texts.index_of.Goals as goal

pub returns : goal.returns
returns c = c.get_index_of.ensures.index ∙ position_text c.args.text.now c.args.table.now.keys
