use Rattle.std.proofs.Common.{◌≡◌, ◌++◌, map, take}
use Rattle.std.specs.List.{flat_map}
use Rattle.rl_arrays.specs.Section.{comma, quoted}
use Rattle.rl_cdata.proofs.elements.push_more_names.Given as goal

abbrev pub invariant-loop-name : goal.invariant-loop-name
invariant-loop-name l = l.text.items ≡ l.initial.text.items ++ flat_map comma (map quoted (take l.name-index l.names))
