use Rattle.std.proofs.Common.{◌∙◌}
use Rattle.rl_labels.specs.Labels.{once}
use Rattle.rl_reach.proofs.StateLaws.{numbers_tell}
use Rattle.rl_reach.proofs.states.actions_of.Goals as goal

pub returns : goal.returns
returns c = c.from_vec.ensures ∙ numbers_tell c.in_ok-actions.actions.items (once c.args.stamps.now) c.in_ok-actions.ensures
