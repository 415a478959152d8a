use Rattle.std.proofs.Common.{◌≡◌, map}
use Rattle.std.specs.List.{range_with_len}
use Rattle.rl_layout.specs.Told.{told}
use Rattle.rl_layout.specs.Cells.{edge_at}
use Rattle.rl_layout.specs.Shares.{leads, pair_of}
use Rattle.rl_layout.proofs.shares.entries_of.Given as goal

abbrev pub invariant-loop-j : goal.invariant-loop-j
invariant-loop-j l = map pair_of l.entries.items ≡ map (λ j. leads (told l.lists) (edge_at l.asks j l.own)) (range_with_len 0 l.j)
