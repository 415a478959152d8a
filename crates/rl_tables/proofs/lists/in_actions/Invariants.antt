use Rattle.std.proofs.Common.{◌≡◌, ◌<◌, ◌^◌, ℕ}
use Rattle.rl_arrays.specs.Lists.{left_at}
use Rattle.rl_arrays.specs.Rules.{Says}
use Rattle.rl_arrays.specs.declared.arrays.ArrayName.TheVariants as the
use Rattle.rl_tables.proofs.lists.in_actions.Given as goal

abbrev pub invariant-loop-place : goal.invariant-loop-place
invariant-loop-place l = (l.left ≡ left_at l.a.actions l.place) × (l.left < 2 ^ 63) × ((k : ℕ) → k < l.place → Says l.a the.Actions k)
