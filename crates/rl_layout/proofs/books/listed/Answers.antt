use Rattle.std.proofs.Common.{◌≡◌, get_or, refl, rules}
use Rattle.std.proofs.lemmas.List.{take_more}
use Rattle.std.proofs.lemmas.Option.{get_or_from_slice_get}
use Rattle.rl_layout.proofs.books.listed.Goals as goal

pub loop-i-preserved : goal.loop-i-preserved
loop-i-preserved c =
    let keys = c.args.order.now.keys in
    let i = c.loop-i.i in
    let there : get_or keys i 0 ≡ c.action_at.result = get_or_from_slice_get keys i c.action_at.result 0 c.action_at.ensures in
    rw (c.in_ok-push.ensures, take_more keys i 0 (search rules), there, c.loop-i.invariant) refl
