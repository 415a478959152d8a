use Rattle.std.proofs.Common.{◌≡◌, ◌++◌, map, drop}
use Rattle.std.specs.List.{flat_map}
use Rattle.rl_names.specs.Events.{seen, pattern_uses}
use Rattle.rl_names.proofs.events.patterns.Given as goal

abbrev pub invariant-loop-one : goal.invariant-loop-one
invariant-loop-one l = map seen l.found.items ++ flat_map pattern_uses (drop l.one-index l.all) ≡ map seen l.initial.found.items ++ flat_map pattern_uses l.all
