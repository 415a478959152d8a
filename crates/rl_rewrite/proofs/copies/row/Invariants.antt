use Rattle.std.proofs.Common.{◌≡◌, ◌-◌, ◌++◌, replicate}
use Rattle.rl_rewrite.specs.Steps.{placed_of, goes_on}
use Rattle.rl_rewrite.specs.Walk.{row as row_of}
use Rattle.rl_rewrite.proofs.copies.row.Given as goal

abbrev pub invariant-loop-i : goal.invariant-loop-i
invariant-loop-i l = goes_on l.made (replicate (l.few - l._i) (placed_of l.x) ++ replicate l.more (placed_of l.y)) l.at ≡ row_of (replicate l.few (placed_of l.x) ++ replicate l.more (placed_of l.y)) l.at

abbrev pub invariant-loop-j : goal.invariant-loop-j
invariant-loop-j l = goes_on l.made (replicate (l.more - l._j) (placed_of l.y)) l.at ≡ row_of (replicate l.few (placed_of l.x) ++ replicate l.more (placed_of l.y)) l.at
