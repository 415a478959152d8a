use Rattle.std.proofs.Common.{◌≡◌, ◌<◌, ◌≤◌, pos, arith}
use Rattle.rl_arrays.specs.Words.{number_at}
use Rattle.rl_arrays.specs.Sizes.{states}
use Rattle.rl_tables.proofs.EntryLaws.{places_of, inside_uses, pos-less}
use Rattle.rl_tables.proofs.walk.first_use.Goals as goal

pub returns-then-s-len-clause-sum : goal.returns-then-s-len-clause-sum
returns-then-s-len-clause-sum c =
    let value = rw c.as_slice.ensures at c.count_at.ensures.value in
    rw value ((places_of c.args.a.now c.requires.sound).offsets c.args.s (omega arith))

pub returns-then-s-len-clause-inside : goal.returns-then-s-len-clause-inside
returns-then-s-len-clause-inside c = λ place lt.
    let a = c.args.a.now in
    let P = places_of a c.requires.sound in
    let value = rw c.as_slice.ensures at c.count_at.ensures.value in
    let few = P.most c.args.s (number_at a.cell_offsets c.args.s) (omega arith) (P.offsets c.args.s (omega arith)) in
    (inside_uses a P place).1 (omega (arith, lt, value, few))

pub returns-else-s-len-clause-sum : goal.returns-else-s-len-clause-sum
returns-else-s-len-clause-sum c = let same : c.args.s ≡ states c.args.a.now = omega arith in rw same c.use_count.ensures

pub returns-else-s-len-clause-inside : goal.returns-else-s-len-clause-inside
returns-else-s-len-clause-inside c = λ place lt. rw c.use_count.ensures (pos-less place c.use_count.result lt)
