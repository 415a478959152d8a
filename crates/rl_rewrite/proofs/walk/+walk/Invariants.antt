use Rattle.std.proofs.Common.{◌≡◌, ◌+◌, ◌*◌, ◌≤◌, length, drop, map}
use Rattle.rl_rewrite.specs.Plain.{operand, plains}
use Rattle.rl_rewrite.specs.Steps.{placed_of, AreFew, chained_on, operand_nodes}
use Rattle.rl_rewrite.proofs.Weights.{weight, weight_of_link, links_weight, value_weight, reach}
use Rattle.rl_rewrite.proofs.walk.+walk.Given as goal

abbrev pub decreases-walk : goal.decreases-walk
decreases-walk l = 4 * (reach l.earlier.now + weight l.e.now)

abbrev pub decreases-walk_name : goal.decreases-walk_name
decreases-walk_name l = 4 * reach l.earlier.now + 1

abbrev pub decreases-walk_value : goal.decreases-walk_value
decreases-walk_value l = 4 * (reach l.earlier.now + value_weight l.value.now) + 1

abbrev pub decreases-walk_link : goal.decreases-walk_link
decreases-walk_link l = 4 * (reach l.earlier.now + weight_of_link l.link.now) + 1

abbrev pub decreases-walk_links : goal.decreases-walk_links
decreases-walk_links l = 4 * (reach l.earlier.now + links_weight l.links.now) + 2

abbrev pub decreases-walk_chain : goal.decreases-walk_chain
decreases-walk_chain l = 4 * (reach l.earlier.now + weight l.first.now + links_weight l.links.now) + 3

abbrev pub decreases-walk_repeated : goal.decreases-walk_repeated
decreases-walk_repeated l = 4 * (reach l.earlier.now + weight l.e.now) + 1

abbrev pub decreases-walk_negated : goal.decreases-walk_negated
decreases-walk_negated l = 4 * (reach l.earlier.now + weight l.e.now + length l.ns.now) + 1

abbrev pub decreases-walk_embedded : goal.decreases-walk_embedded
decreases-walk_embedded l = 4 * (reach l.earlier.now + weight l.e.now) + 1

abbrev pub invariant-walk_links-loop-link : goal.invariant-walk_links-loop-link
invariant-walk_links-loop-link l =
    let os = map (operand l.alphabet (plains l.alphabet l.earlier)) l.links in
    let left = map (operand l.alphabet (plains l.alphabet l.earlier)) (drop l.link-index l.links) in
    (l.counts.stamp + 3 * operand_nodes left ≤ l.initial.counts.stamp + 3 * operand_nodes os)
    × AreFew l.counts
    × (chained_on l.alphabet l.at left (placed_of l.x) l.counts ≡ chained_on l.alphabet l.at os (placed_of l.initial.x) l.initial.counts)
