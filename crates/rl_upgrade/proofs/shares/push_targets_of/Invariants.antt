use Rattle.std.proofs.Common.{◌≡◌, ℕ, ◌++◌, pos, map, drop}
use Rattle.std.specs.List.{flat_map}
use Rattle.rl_arrays.specs.Shared.{Cell}
use Rattle.rl_upgrade.specs.Values.{values}
use Rattle.rl_upgrade.proofs.shares.push_targets_of.Given as goal

abbrev pub invariant-loop-cell : goal.invariant-loop-cell
invariant-loop-cell l =
    l.initial.targets.items ++ flat_map (λ (c : Cell). map (λ (e : ℕ × ℕ). pos e.0) c.entries) (values l.cells)
    ≡ l.targets.items ++ flat_map (λ (c : Cell). map (λ (e : ℕ × ℕ). pos e.0) c.entries) (values (drop l.cell-index l.cells))
