use Rattle.std.proofs.Common.{◌≡◌, ℕ, ◌++◌, pos, map, take}
use Rattle.rl_upgrade.specs.Values.{pair_of}
use Rattle.rl_upgrade.proofs.shares.push_lists.Given as goal

abbrev pub invariant-loop-entry : goal.invariant-loop-entry
invariant-loop-entry l = l.numbers.items ≡ l.initial.numbers.items ++ map (λ (e : ℕ × ℕ). pos e.1) (map pair_of (take l.entry-index l.entries))
