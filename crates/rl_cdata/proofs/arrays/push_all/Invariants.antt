use Rattle.std.proofs.Common.{◌≡◌, ◌++◌, map, take}
use Rattle.std.specs.List.{flat_map}
use Rattle.rl_arrays.specs.Section.{line_text}
use Rattle.rl_cdata.specs.Texts.{line_of}
use Rattle.rl_cdata.proofs.arrays.push_all.Given as goal

abbrev pub invariant-loop-array : goal.invariant-loop-array
invariant-loop-array l = l.text.items ≡ l.initial.text.items ++ flat_map line_text (map (line_of l.a) (take l.array-index l.arrays))
