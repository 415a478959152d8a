use Rattle.std.proofs.Common.{arith}
use Rattle.std.proofs.lemmas.Int.{ints, to_z-of_z}
use Rattle.rl_tables.proofs.CountLaws.{count_says, says_moves}
use Rattle.rl_tables.proofs.counts.is_count.Goals as goal

pub returns : goal.returns
returns c =
    let fits = c.ranges.count in
    let few = simp to_z-of_z at c.has_few.ensures in (
      λ t. count_says c.args.a.now c.args.k c.args.count (omega (arith, ints)) (omega arith) (few.0 c.if-not-has_few.false) (c.may_move.ensures.0 t),
      λ said. c.may_move.ensures.1 (says_moves c.args.a.now c.args.k c.args.count (λ e. absurd (omega (arith, ints, e, c.if-count-eq0.false))) said),
    )
