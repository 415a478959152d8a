use Rattle.rl_certificate.proofs.SearchEdges.{edges_next}
use Rattle.rl_certificate.proofs.reach.add_targets.Goals as goal

pub loop-edge-preserved : goal.loop-edge-preserved
loop-edge-preserved c = λ end r.
    c.loop-edge.invariant end
    (edges_next c.loop-edge.met.items c.add_target.new.met.items end c.args.entry.0 c.args.word.now c.args.edges.now c.loop-edge.edge-index
    c.edge-item.result
    c.loop-edge-test.true c.edge-item.is c.in_ok-add_target.ensures r)
