use Rattle.std.proofs.Common.{◌≡◌, ◌<◌, ◌∷◌, ◌++◌, [], pos, length, map, get_or, rules}
use Rattle.std.proofs.lemmas.List.{map-append}
use Rattle.rl_layout.specs.Told.{told}
use Rattle.rl_layout.specs.declared.runs.Run.{Run}
use Rattle.rl_layout.specs.Shares.{cell_of, value_of}
use Rattle.rl_layout.proofs.CellLaws.{taken_more}
use Rattle.rl_layout.proofs.shares.push_cells.Goals as goal

pub loop-run-preserved : goal.loop-run-preserved
loop-run-preserved c =
    let runs = c.args.runs.now in
    let i = c.loop-run.run-index in
    let d : Run = record { lo = pos 0; hi = pos 0; first = 0; end = 0 } in
    let f = cell_of (told c.args.lists.now) c.args.edges.now in
    let lt : i < length runs = search rules in
    let at : value_of c.in_ok-cell.cell ≡ f (get_or runs i d) = search rules in
    let more : map value_of c.push.new.items.items ≡ map value_of c.loop-run.cells.items ++ value_of c.in_ok-cell.cell ∷ [] =
    rw c.in_ok-push.ensures (map-append value_of c.loop-run.cells.items (c.in_ok-cell.cell ∷ [])) in
    taken_more f (map value_of c.args.cells.now.items) (map value_of c.loop-run.cells.items) (map value_of c.push.new.items.items) runs i d (value_of c.in_ok-cell.cell) lt c.loop-run.invariant more at
