use Rattle.std.proofs.Common.{◌≡◌, ◌∷◌, ◌++◌, [], map}
use Rattle.std.proofs.lemmas.List.{map-append}
use Rattle.rl_arrays.specs.TableMachine.{cell_used}
use Rattle.rl_arrays.specs.Shared.{cell_at}
use Rattle.rl_upgrade.specs.Values.{value_of}
use Rattle.rl_upgrade.proofs.ListLaws.{made_more}
use Rattle.rl_upgrade.proofs.cells.cells_used.Goals as goal

pub loop-place-preserved : goal.loop-place-preserved
loop-place-preserved c =
    let more : map value_of c.push.new.items.items ≡ map value_of c.loop-place.cells.items ++ value_of c.in_ok-cell.cell ∷ [] =
    rw c.in_ok-push.ensures (map-append value_of c.loop-place.cells.items (c.in_ok-cell.cell ∷ [])) in
    made_more (λ place. cell_at c.args.a.now (cell_used c.args.a.now place)) [] _ _ c.loop-place.place _ c.loop-place.invariant more (rw c.cell_used.ensures at c.in_ok-cell.ensures)
