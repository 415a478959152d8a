use Rattle.std.proofs.Common.{◌≡◌, bit_or, drop, map}
use Rattle.rl_fsm.specs.Reads.{asks_at}
use Rattle.rl_fsm.specs.Graphs.{reads_of}
use Rattle.rl_fsm.proofs.look_ups.asks_at.Given as goal

abbrev pub invariant-loop-e : goal.invariant-loop-e
invariant-loop-e l = asks_at l.at.key (map reads_of l.edges) ≡ bit_or l.asks (asks_at l.at.key (map reads_of (drop l.e-index l.edges)))
