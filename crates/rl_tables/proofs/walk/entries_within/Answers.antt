use Rattle.std.proofs.Common.{◌≡◌, ◌^◌, pos, arith}
use Rattle.std.specs.Prelude.{count_ones}
use Rattle.std.proofs.lemmas.Int.{ints}
use Rattle.rl_arrays.specs.Words.{number_at}
use Rattle.rl_tables.proofs.EntryLaws.{places_of, inside_cells, clipped_entries}
use Rattle.rl_tables.proofs.walk.entries_within.Goals as goal

pub returns-clause-entries : goal.returns-clause-entries
returns-clause-entries c =
    let a = c.args.a.now in
    let P = places_of a c.requires.sound in
    let first = rw c.as_slice.ensures at c.count_at-first.ensures.value in
    let asks = rw c.as_slice-2.ensures at c.count_at.ensures.value in
    let width : c.truths_of-width.result ≡ pos (2 ^ count_ones (number_at a.cell_asks c.args.cell)) = rw asks at c.truths_of-width.ensures.value in
    let low = c.count_at-first.ensures.small in
    let few = c.truths_of-width.ensures.small in
    clipped_entries a P c.args.cell c.args.has c.clipped.result c.clipped-2.result _ _ ((inside_cells a P c.args.cell).0 c.requires.inside)
    c.clipped.ensures.below c.clipped.ensures.above c.clipped-2.ensures.below c.clipped-2.ensures.above
    (omega (arith, ints, first, low)) (omega (arith, ints, first, low, width, few))

pub returns-clause-few : goal.returns-clause-few
returns-clause-few c = (omega (arith, c.clipped.ensures.value), omega (arith, c.clipped-2.ensures.value))
