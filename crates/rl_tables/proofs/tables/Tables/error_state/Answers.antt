use Rattle.std.proofs.Common.{arith}
use Rattle.rl_tables.proofs.Kinded.{some_states, no_entry}
use Rattle.rl_arrays.specs.TableMachine.{machine}
use Rattle.rl_tables.proofs.tables.Tables.error_state.Goals as goal

pub returns-clause-exists : goal.returns-clause-exists
returns-clause-exists c = let some = some_states c.args.self.now c.arrays.ensures.valid in omega (arith, some)

pub returns-clause-no_entry : goal.returns-clause-no_entry
unfolding machine
returns-clause-no_entry c = no_entry c.args.self.now c.arrays.ensures.valid
