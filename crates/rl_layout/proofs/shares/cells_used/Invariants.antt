use Rattle.std.proofs.Common.{◌≡◌, map, take}
use Rattle.std.specs.List.{flat_map}
use Rattle.rl_layout.specs.Told.{told}
use Rattle.rl_layout.specs.Shares.{cells_in, value_of}
use Rattle.rl_layout.proofs.shares.cells_used.Given as goal

abbrev pub invariant-loop-state : goal.invariant-loop-state
invariant-loop-state l = map value_of l.cells.items ≡ flat_map (cells_in (told l.lists)) (take l.state-index l.states)
