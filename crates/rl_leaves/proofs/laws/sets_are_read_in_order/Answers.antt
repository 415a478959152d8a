use Rattle.rl_leaves.proofs.SetLaws.{spans_more}
use Rattle.rl_leaves.proofs.laws.sets_are_read_in_order.Goals as goal

pub returns : goal.returns
returns c = spans_more
