use Rattle.std.proofs.Common.{arith}
use Rattle.rl_tables.proofs.NameLaws.{entries_few}
use Rattle.rl_tables.proofs.tables.Tables.entry_named.Goals as goal

pub overflow_cast-result : goal.overflow_cast-result
overflow_cast-result c =
    let few = entries_few c.args.self.now c.arrays.ensures.valid in
    let within = rw c.arrays.ensures.same at c.in-Some.ensures.within in
    omega (arith, few, within.1)
