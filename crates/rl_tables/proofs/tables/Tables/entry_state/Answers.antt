use Rattle.std.proofs.Common.{arith}
use Rattle.rl_tables.proofs.Kinded.{is_kinded}
use Rattle.rl_tables.proofs.ListNumbers.{entry_there, states_few}
use Rattle.rl_tables.proofs.tables.Tables.entry_state.Goals as goal

pub overflow_cast-result : goal.overflow_cast-result
overflow_cast-result c =
    let state = rw (c.as_slice.ensures, c.arrays.ensures.same) at c.count_at.ensures.value in
    let there = entry_there c.args.self.now c.arrays.ensures.valid c.args.entry.0 c.requires.0 c.requires.1 in
    let few = states_few c.args.self.now c.arrays.ensures.valid in
    omega (arith, state, there, few)

pub returns-clause-exists : goal.returns-clause-exists
returns-clause-exists c =
    let state = rw (c.as_slice.ensures, c.arrays.ensures.same) at c.count_at.ensures.value in
    let there = entry_there c.args.self.now c.arrays.ensures.valid c.args.entry.0 c.requires.0 c.requires.1 in
    omega (arith, state, there)

pub returns-clause-kinded : goal.returns-clause-kinded
returns-clause-kinded c = is_kinded c.args.self.now c.arrays.ensures.valid
