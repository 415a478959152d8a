use Rattle.rl_certificate.proofs.SearchEdges.{put_is}
use Rattle.rl_certificate.proofs.reach.put_behind.Goals as goal

pub returns : goal.returns
returns c = put_is c.args.met.now.items c.push.new.items.items
    (record { state = c.args.state; entry = c.args.entry; word = c.args.word }) c.push.result c.push.ensures
