use Rattle.rl_replay.proofs.OwnPicks.{four_taken}
use Rattle.rl_replay.proofs.host.pick_four.Goals as goal

pub returns : goal.returns
returns g c =
    four_taken (g.L.LookUps.machine c.args.look_ups.now) c.args.call.now
    c.next_pick-first.result c.next_pick-second.result c.next_pick-third.result c.next_pick-fourth.result
    c.next_pick-first.ensures c.next_pick-second.ensures c.next_pick-third.ensures c.next_pick-fourth.ensures
