use Rattle.std.proofs.Common.{◌≡◌, ◌++◌, drop}
use Rattle.rl_layout.specs.Cells.{offsets}
use Rattle.rl_layout.proofs.cells.push_offsets.Given as goal

abbrev pub invariant-loop-count : goal.invariant-loop-count
invariant-loop-count l = l.initial.places.items ++ offsets l.from l.counts ≡ l.places.items ++ offsets l.place (drop l.count-index l.counts)
