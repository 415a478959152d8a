use Rattle.std.proofs.Common.{◌∙◌}
use Rattle.rl_statements.proofs.ReadLaws.{position_text}
use Rattle.rl_statements.proofs.reading.index_of.Goals as goal

pub returns : goal.returns
returns c = c.get_index_of.ensures.index ∙ position_text c.args.name.now c.args.entries.now.keys
