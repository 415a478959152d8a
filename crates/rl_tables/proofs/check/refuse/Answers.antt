use Rattle.std.proofs.Common.{below_more}
use Rattle.rl_tables.proofs.check.refuse.Goals as goal

pub returns-in-None : goal.returns-in-None
returns-in-None c = below_more _ _ c.requires.before (rw c.requires.named (rw c.in-None.is at c.requires.first))
