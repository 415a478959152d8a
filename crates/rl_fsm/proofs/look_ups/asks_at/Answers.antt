use Rattle.std.proofs.Common.{◌∙◌, sym, arith}
use Rattle.rl_fsm.proofs.Asks.{asks_more, asks_all}
use Rattle.rl_fsm.proofs.look_ups.asks_at.Goals as goal

pub loop-e-preserved : goal.loop-e-preserved
loop-e-preserved c = c.loop-e.invariant ∙ asks_more _ c.args.edges.now c.loop-e.e-index c.e-item.result c.loop-e.asks c.own_asks-asks.result (omega arith) c.e-item.is c.own_asks-asks.ensures

pub returns : goal.returns
returns c = sym (c.loop-e.invariant ∙ asks_all _ c.args.edges.now c.loop-e.e-index c.loop-e.asks (omega arith))
