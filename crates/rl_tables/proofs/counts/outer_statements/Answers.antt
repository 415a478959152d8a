use Rattle.std.proofs.Common.{arith}
use Rattle.rl_tables.proofs.CountLaws.{outer_none}
use Rattle.rl_tables.proofs.counts.outer_statements.Goals as goal

pub returns : goal.returns
returns c = let none = outer_none c.args.kinds.now c.args.marks.now c.loop-i.i (omega arith) in omega (arith, c.loop-i.invariant.1, none)
