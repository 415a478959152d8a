use Rattle.std.proofs.Common.{refl, sym, ◌∙◌, ap}
use Rattle.rl_replay.specs.OwnPicks.{picks_left}
use Rattle.rl_replay.proofs.OwnPicks.{over}
use Rattle.rl_replay.proofs.host.next_pick.Goals as goal

pub returns : goal.returns
returns g c =
    let m = g.L.LookUps.machine c.args.look_ups.now in
    (sym c.loop-from.invariant ∙ ap (picks_left m c.args.call.now) c.in_default.is ∙ over m c.args.call.now, refl)
