use Rattle.std.proofs.Common.{◌≡◌, map, take}
use Rattle.rl_min.specs.Merged.{merged_edge}
use Rattle.rl_min.proofs.merged.merged_edges.Given as goal

abbrev pub invariant-loop-e : goal.invariant-loop-e
invariant-loop-e l = l.made.items ≡ map (merged_edge l.numbers) (take l.e-index l.edges)
