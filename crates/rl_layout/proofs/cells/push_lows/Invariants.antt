use Rattle.std.proofs.Common.{◌≡◌, ◌++◌, map, take}
use Rattle.rl_layout.proofs.cells.push_lows.Given as goal

abbrev pub invariant-loop-run : goal.invariant-loop-run
invariant-loop-run l = l.keys.items ≡ l.initial.keys.items ++ map (λ r. r.lo) (take l.run-index l.runs)
