use Rattle.std.proofs.lemmas.Map.Made.{AllPairs-from_IsDistinct}
use Rattle.rl_classes.proofs.Numbers.{pair_decides}
use Rattle.rl_classes.proofs.partition.number_of.Goals as goal

pub returns-in-Ok-clause-distinct : goal.returns-in-Ok-clause-distinct
returns-in-Ok-clause-distinct c = AllPairs-from_IsDistinct pair_decides _ c.in-Ok.ensures.unique
