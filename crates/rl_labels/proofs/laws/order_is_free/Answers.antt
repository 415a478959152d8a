use Rattle.rl_labels.proofs.Survivors.{order_is_free}
use Rattle.rl_labels.proofs.laws.order_is_free.Goals as goal

pub returns : goal.returns
returns c = order_is_free
