use Rattle.std.proofs.Common.{ℕ, ◌<◌, ◌++◌, pos, length, map, ap, rules}
use Rattle.std.specs.List.{flat_map}
use denote.Ref.{Bor}
use Rattle.rl_arrays.specs.Shared as arrays
use Rattle.rl_upgrade.specs.declared.cells.Cell.{Cell}
use Rattle.rl_upgrade.specs.Values.{pair_of, value_of, values}
use Rattle.rl_upgrade.proofs.ShareCode.{flat_more}
use Rattle.rl_upgrade.proofs.shares.push_targets_of.Goals as goal

pub loop-cell-preserved : goal.loop-cell-preserved
loop-cell-preserved c =
    let cells = c.args.cells.now in
    let f = λ (x : arrays.Cell). map (λ (e : ℕ × ℕ). pos e.0) x.entries in
    let lt : c.loop-cell.cell-index < length cells = search rules in
    flat_more f (λ (x : Bor Cell). value_of x.now) (c.args.targets.now.items ++ flat_map f (values cells)) c.loop-cell.targets.items c.push_targets.new.targets.items
    (map (λ (e : ℕ × ℕ). pos e.0) (map pair_of c.as_slice.result.now)) cells c.loop-cell.cell-index c.cell-item.result lt c.cell-item.is c.loop-cell.invariant
    c.in_ok-push_targets.ensures (ap (λ es. map (λ (e : ℕ × ℕ). pos e.0) (map pair_of es)) c.as_slice.ensures.value)
