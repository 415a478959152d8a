use Rattle.std.proofs.Common.{◌≡◌, ◌∷◌, ◌++◌, [], map}
use Rattle.std.proofs.lemmas.List.{map-append}
use Rattle.rl_layout.specs.Told.{told}
use Rattle.rl_layout.specs.Cells.{edge_at}
use Rattle.rl_layout.specs.Shares.{leads, pair_of}
use Rattle.rl_layout.proofs.CellLaws.{made_more}
use Rattle.rl_layout.proofs.shares.entries_of.Goals as goal

pub loop-j-preserved : goal.loop-j-preserved
loop-j-preserved c =
    let more : map pair_of c.push.new.items.items ≡ map pair_of c.loop-j.entries.items ++ pair_of c.in_ok-entry.entry ∷ [] =
    rw c.in_ok-push.ensures (map-append pair_of c.loop-j.entries.items (c.in_ok-entry.entry ∷ [])) in
    made_more (λ j. leads (told c.args.lists.now) (edge_at c.args.asks j c.args.own.now)) [] _ _ c.loop-j.j _ c.loop-j.invariant more (rw c.edge_at.ensures at c.in_ok-entry.ensures)
