use Rattle.std.proofs.Common.{◌≡◌, get_or, refl, rules}
use Rattle.std.proofs.lemmas.List.{take_more}
use Rattle.std.proofs.lemmas.Option.{get_or_from_slice_get}
use Rattle.rl_upgrade.proofs.shares.listed.Goals as goal

pub loop-i-preserved : goal.loop-i-preserved
loop-i-preserved c =
    let keys = c.args.cells.now.keys in
    let i = c.loop-i.i in
    let d = c.cell_at.result in
    let there : get_or keys i d ≡ d = get_or_from_slice_get keys i d d c.cell_at.ensures in
    rw (c.in_ok-push.ensures, take_more keys i d (search rules), there, c.loop-i.invariant) refl
