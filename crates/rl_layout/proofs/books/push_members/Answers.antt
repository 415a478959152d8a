use Rattle.std.proofs.Common.{◌≡◌, ◌<◌, pos, ◌∷◌, ◌++◌, [], length, get_or, rules}
use Rattle.rl_types.specs.declared.numbers.ActionId.{ActionId}
use Rattle.rl_layout.specs.Books.{number_in}
use Rattle.rl_layout.proofs.CellLaws.{taken_more}
use Rattle.rl_layout.proofs.books.push_members.Goals as goal

pub loop-action-preserved : goal.loop-action-preserved
loop-action-preserved c =
    let list = c.args.list.now in
    let i = c.loop-action.action-index in
    let d : ActionId = record { 0 = 0 } in
    let order = c.args.order.now.keys in
    let lt : i < length list = search rules in
    let at : c.in_ok-place.place ≡ pos (number_in order (get_or list i d).0) = search rules in
    let more : c.push.new.items.items ≡ c.loop-action.elements.items ++ c.in_ok-place.place ∷ [] = search rules in
    taken_more (λ (a : ActionId). pos (number_in order a.0)) c.args.elements.now.items c.loop-action.elements.items c.push.new.items.items list i d c.in_ok-place.place lt c.loop-action.invariant more at
