use Rattle.std.proofs.Common.{arith, map}
use Rattle.rl_cread.proofs.Rests.{told_within}
use Rattle.rl_cread.proofs.ReadingLaws.{map_length}
use Rattle.rl_cread.proofs.read.raw_at.Goals as goal

pub overflow_add-result : goal.overflow_add-result
overflow_add-result c =
    let size = map_length (λ l. l.now) c.args.lines.now in
    let w = told_within c.args.shared c.args.name.now (map (λ l. l.now) c.args.lines.now) (map (λ l. l.now) c.lines_from.result.now) c.args.at c.in-Err-BadLine.place _ c.in-Err-BadLine.field-0-is c.in-Err-BadLine.ensures.bad c.lines_from.ensures (omega (arith, size, c.requires.within)) in
    omega (arith, w, size, c.requires.few)

pub overflow_add-result-in-Err-BadLine : goal.overflow_add-result-in-Err-BadLine
overflow_add-result-in-Err-BadLine c =
    let size = map_length (λ l. l.now) c.args.lines.now in
    let w = told_within c.args.shared c.args.name.now (map (λ l. l.now) c.args.lines.now) (map (λ l. l.now) c.lines_from.result.now) c.args.at c.in-Err-BadLine.place _ c.in-Err-BadLine.field-0-is c.in-Err-BadLine.ensures.bad c.lines_from.ensures (omega (arith, size, c.requires.within)) in
    omega (arith, w, size, c.requires.few)
