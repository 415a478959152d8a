use Rattle.std.proofs.Common.{◌≡◌, ◌∷◌, ◌++◌, [], take}
use Rattle.std.specs.List.{flat_map}
use Rattle.rl_layout.proofs.cells.push_ends.Given as goal

abbrev pub invariant-loop-run : goal.invariant-loop-run
invariant-loop-run l = l.keys.items ≡ l.initial.keys.items ++ flat_map (λ r. r.lo ∷ r.hi ∷ []) (take l.run-index l.runs)
