use Rattle.std.proofs.Common.{◌<◌, length, sym, arith}
use Rattle.rl_build.proofs.CellLaws.{none_most}
use Rattle.rl_build.proofs.counting.most.Goals as goal

pub returns-then-conditions-gt22 : goal.returns-then-conditions-gt22
returns-then-conditions-gt22 c =
    let cells = c.args.cells.now in
    let many : 22 < length cells.conditions.items = omega arith in
    sym (none_most cells.classes (length cells.conditions.items) cells.some many)
