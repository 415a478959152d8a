use Rattle.std.proofs.Common.{◌≤◌, length}
use Rattle.rl_build.specs.Nodes.{IsOver}
use Rattle.rl_build.proofs.NodeLaws.{plain_made, plain_over}
use Rattle.rl_build.proofs.node.within.Goals as goal

pub returns-in-None : goal.returns-in-None
returns-in-None c = λ t p h s.
    let m = c.args.machine in
    let f : (length m.states ≤ 32767) × (length m.states ≤ c.args.most) = rw c.states.ensures.count at c.in-None.ensures in
    plain_made t m c.args.most p h s f.0 f.1

pub returns-in-Some : goal.returns-in-Some
returns-in-Some c = λ t p h s.
    let m = c.args.machine in
    let f : IsOver (length m.states) c.args.most c.in-Some.fault = rw c.states.ensures.count at c.in-Some.ensures in
    plain_over t m c.args.most p h s c.in-Some.fault f
