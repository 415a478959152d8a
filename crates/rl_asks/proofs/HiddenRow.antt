-- A condition that a cycle of priorities hides.
use Rattle.std.proofs.Common.{[], refl, pos, unwrap_or}
use Rattle.rl_types.specs.declared.numbers.Letter.{Letter}
use Rattle.rl_automata.specs.declared.moves.Move.{Move}
use Rattle.rl_automata.specs.Auto.{Auto, every_truths}
use Rattle.rl_automata.specs.Follows.{begun, went}
use Rattle.rl_automata.specs.Nodes.{Conf}
use Rattle.rl_automata.specs.Marks.{auto}
use Rattle.rl_automata.specs.Runs.{unpruned}
use Rattle.rl_asks.specs.Asks.{guarded_ring, CycleHidesCondition}

abbrev machine : Auto (Conf guarded_ring)
machine = auto guarded_ring (unpruned guarded_ring)

abbrev k : Letter
k = record { key = pos 107; truths = 1 }

abbrev move_from : Conf guarded_ring → Move (Conf guarded_ring)
move_from c = unwrap_or (machine.step c k) (record { to = c; carry = record { actions = []; table = [] } })

abbrev one : Move (Conf guarded_ring)
one = move_from machine.start

abbrev two : Move (Conf guarded_ring)
two = move_from one.to

pub hidden : CycleHidesCondition
unfolding every_truths
hidden = (two.to, went (went begun k one refl) k two refl, refl, refl)
