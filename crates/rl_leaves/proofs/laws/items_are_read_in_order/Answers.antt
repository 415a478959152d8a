use Rattle.rl_leaves.proofs.RegularLaws.{items_more}
use Rattle.rl_leaves.proofs.laws.items_are_read_in_order.Goals as goal

pub returns : goal.returns
returns c = items_more
