use Rattle.std.proofs.Common.{arith}
use Rattle.rl_tables.proofs.ListNumbers.{home_there, states_few}
use Rattle.rl_tables.proofs.tables.Tables.home.Goals as goal

pub overflow_cast-result : goal.overflow_cast-result
overflow_cast-result c =
    let home = rw (c.as_slice.ensures, c.arrays.ensures.same) at c.count_at.ensures.value in
    let there = home_there c.args.self.now c.arrays.ensures.valid c.args.state c.requires in
    let few = states_few c.args.self.now c.arrays.ensures.valid in
    omega (arith, home, there, few)

pub returns-clause-exists : goal.returns-clause-exists
returns-clause-exists c =
    let home = rw (c.as_slice.ensures, c.arrays.ensures.same) at c.count_at.ensures.value in
    let there = home_there c.args.self.now c.arrays.ensures.valid c.args.state c.requires in
    omega (arith, home, there)
