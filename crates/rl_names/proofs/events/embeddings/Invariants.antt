use Rattle.std.proofs.Common.{◌≡◌, ◌++◌, map, drop}
use Rattle.std.specs.List.{flat_map}
use Rattle.rl_names.specs.Events.{seen, embedding_events}
use Rattle.rl_names.proofs.events.embeddings.Given as goal

abbrev pub invariant-loop-one : goal.invariant-loop-one
invariant-loop-one l = map seen l.found.items ++ flat_map embedding_events (drop l.one-index l.all) ≡ map seen l.initial.found.items ++ flat_map embedding_events l.all
