use Rattle.std.proofs.Common.{arith}
use Rattle.rl_tables.proofs.ListNumbers.{target_there, states_few, step_is_list}
use Rattle.rl_tables.proofs.accessors.step_at.Goals as goal

pub overflow_cast-result : goal.overflow_cast-result
overflow_cast-result c =
    let target = rw c.as_slice.ensures at c.count_at-target.ensures.value in
    let there = target_there c.args.a.now c.requires.valid c.args.entry c.requires.within in
    let few = states_few c.args.a.now c.requires.valid in
    omega (arith, target, there, few)

pub returns-else-target-eq0-clause-exists : goal.returns-else-target-eq0-clause-exists
returns-else-target-eq0-clause-exists c =
    let target = rw c.as_slice.ensures at c.count_at-target.ensures.value in
    let list = rw c.as_slice-else-target-eq0.ensures at c.count_at.ensures.value in
    let there = target_there c.args.a.now c.requires.valid c.args.entry c.requires.within in
    (omega (arith, target, there), rw list (step_is_list c.args.a.now c.requires.valid c.args.entry c.requires.within))
