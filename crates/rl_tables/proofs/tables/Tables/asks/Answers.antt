use Rattle.std.proofs.Common.{arith}
use Rattle.rl_tables.proofs.Places.{asks_byte}
use Rattle.rl_tables.proofs.tables.Tables.asks.Goals as goal

pub overflow_cast-result : goal.overflow_cast-result
overflow_cast-result c =
    let asks = rw (c.as_slice.ensures, c.arrays-a.ensures.same) at c.count_at.ensures.value in
    let there = rw c.arrays-a.ensures.same at c.in-Some.ensures.exists in
    let few = asks_byte c.args.self.now c.arrays-a.ensures.valid c.in-Some.cell there in
    omega (arith, asks, few)
