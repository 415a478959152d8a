use Rattle.std.proofs.Common.{◌≡◌, ◌++◌, map, drop}
use Rattle.std.specs.List.{flat_map}
use Rattle.rl_names.specs.Events.{seen, in_pattern}
use Rattle.rl_names.proofs.events.all_in_pattern.Given as goal

abbrev pub invariant-loop-one : goal.invariant-loop-one
invariant-loop-one l = map seen l.found.items ++ flat_map (in_pattern l.place) (map seen (drop l.one-index l.own)) ≡ map seen l.initial.found.items ++ flat_map (in_pattern l.place) (map seen l.own)
