use Rattle.std.proofs.Common.{◌≡◌, take, map}
use Rattle.rl_fsm.specs.Graphs.{fsm_auto}
use Rattle.rl_embed.specs.Changed.{embedded_edge}
use Rattle.rl_embed.proofs.embed.embedded_edges.Given as goal

abbrev pub invariant-loop-edge : goal.invariant-loop-edge
invariant-loop-edge l = l.embedded.items ≡ map (embedded_edge l.e.how (fsm_auto l.e.machine.now) l.e.label.now l.from) (take l.edge-index l.edges)
