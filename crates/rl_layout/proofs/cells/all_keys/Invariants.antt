use Rattle.std.proofs.Common.{◌≡◌, take}
use Rattle.std.specs.List.{flat_map}
use Rattle.rl_layout.specs.Cells.{keys_of}
use Rattle.rl_layout.proofs.cells.all_keys.Given as goal

abbrev pub invariant-loop-state : goal.invariant-loop-state
invariant-loop-state l = l.keys.items ≡ flat_map keys_of (take l.state-index l.states)
