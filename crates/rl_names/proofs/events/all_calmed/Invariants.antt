use Rattle.std.proofs.Common.{◌≡◌, ◌++◌, map, drop}
use Rattle.std.specs.List.{flat_map}
use Rattle.rl_names.specs.Events.{seen, calmed}
use Rattle.rl_names.proofs.events.all_calmed.Given as goal

abbrev pub invariant-loop-one : goal.invariant-loop-one
invariant-loop-one l = map seen l.found.items ++ flat_map (calmed l.place) (map seen (drop l.one-index l.own)) ≡ map seen l.initial.found.items ++ flat_map (calmed l.place) (map seen l.own)
