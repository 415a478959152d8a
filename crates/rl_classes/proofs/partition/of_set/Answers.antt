use Rattle.rl_classes.proofs.Apart.{set_apart}
use Rattle.rl_classes.proofs.partition.of_set.Goals as goal

pub returns : goal.returns
returns c = set_apart _ _ _ c.in_ok-told.ensures c.in_ok-numbers.ensures.first c.in_ok-numbers.ensures.later
