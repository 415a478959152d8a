use Rattle.std.proofs.Common.{arith}
use Rattle.rl_tables.proofs.Kinded.{kind_most}
use Rattle.rl_tables.proofs.tables.Tables.kind.Goals as goal

pub overflow_cast-result : goal.overflow_cast-result
overflow_cast-result c =
    let kind = rw (c.as_slice.ensures, c.arrays.ensures.same) at c.count_at.ensures.value in
    let few = kind_most c.args.self.now c.arrays.ensures.valid c.args.state in
    omega (arith, kind, few)
