use Rattle.std.proofs.Common.{◌∙◌}
use Rattle.rl_sessions.proofs.Rolls.{position_key}
use Rattle.rl_sessions.proofs.roll.place_on.Goals as goal

pub returns : goal.returns
returns c = c.get_index_of.ensures.index ∙ position_key c.args.name.now c.args.roll.now.keys
