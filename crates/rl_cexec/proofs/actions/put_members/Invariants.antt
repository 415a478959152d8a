use Rattle.std.proofs.Common.{◌≡◌, ◌++◌, map, take}
use Rattle.std.specs.Prelude.{flat_map}
use Rattle.rl_arrays.specs.Words.{natural}
use Rattle.rl_arrays.specs.Lists.{members}
use Rattle.rl_cexec.proofs.actions.put_members.Given as goal

abbrev pub invariant-loop-list : goal.invariant-loop-list
invariant-loop-list l = map natural l.found.items ≡ map natural l.initial.found.items ++ flat_map (λ n. members l.actions (natural n)) (take l.list-index l.lists)
