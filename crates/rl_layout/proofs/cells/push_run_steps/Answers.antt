use Rattle.std.proofs.Common.{◌≡◌, ◌∷◌, ◌++◌, [], map}
use Rattle.std.specs.Option.{option_copied}
use Rattle.std.proofs.lemmas.List.{map-append}
use Rattle.rl_layout.specs.Cells.{edge_at}
use Rattle.rl_layout.proofs.CellLaws.{made_more}
use Rattle.rl_layout.proofs.cells.push_run_steps.Goals as goal

pub loop-j-preserved : goal.loop-j-preserved
loop-j-preserved c =
    let more : map option_copied c.push.new.items.items ≡ map option_copied c.loop-j.steps.items ++ option_copied c.edge_at.result ∷ [] = rw c.in_ok-push.ensures (map-append option_copied c.loop-j.steps.items (c.edge_at.result ∷ [])) in
    made_more (λ j. edge_at c.asks_of-asks.result j c.edges_of-own.result.now) _ _ _ c.loop-j.j _ c.loop-j.invariant more c.edge_at.ensures
