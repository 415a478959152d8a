use Rattle.std.proofs.Common.{◌≡◌, ◌++◌, map, drop}
use Rattle.std.specs.List.{flat_map}
use Rattle.rl_names.specs.Events.{seen}
use Rattle.rl_names.specs.Uses.{concatenation_part_uses, union_part_uses}
use Rattle.rl_names.proofs.events.+events.Given as goal

abbrev pub invariant-concatenation_parts-loop-part : goal.invariant-concatenation_parts-loop-part
invariant-concatenation_parts-loop-part l = map seen l.found.items ++ flat_map concatenation_part_uses (drop l.part-index l.parts) ≡ map seen l.initial.found.items ++ flat_map concatenation_part_uses l.parts

abbrev pub invariant-union_parts-loop-part : goal.invariant-union_parts-loop-part
invariant-union_parts-loop-part l = map seen l.found.items ++ flat_map union_part_uses (drop l.part-index l.parts) ≡ map seen l.initial.found.items ++ flat_map union_part_uses l.parts
