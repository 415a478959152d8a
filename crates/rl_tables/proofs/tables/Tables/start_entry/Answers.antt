use Rattle.std.proofs.Common.{arith}
use Rattle.rl_tables.proofs.NameLaws.{entries_few, start_exists}
use Rattle.rl_tables.proofs.tables.Tables.start_entry.Goals as goal

pub overflow_cast-result : goal.overflow_cast-result
overflow_cast-result c =
    let start = rw c.arrays.ensures.same at c.start_entry_of.ensures in
    let there = start_exists c.args.self.now c.arrays.ensures.valid in
    let few = entries_few c.args.self.now c.arrays.ensures.valid in
    omega (arith, start, there.1, few)

pub returns-clause-exists : goal.returns-clause-exists
returns-clause-exists c =
    let start = rw c.arrays.ensures.same at c.start_entry_of.ensures in
    let there = start_exists c.args.self.now c.arrays.ensures.valid in
    rw start there
