use Rattle.std.proofs.Common.{◌≡◌, ◌+◌, ◌*◌, map, drop}
use Rattle.rl_rewrite.specs.Plain.{operand, plains}
use Rattle.rl_rewrite.specs.Measures.{IsCut, chained_size}
use Rattle.rl_rewrite.proofs.Weights.{weight, weight_of_link, links_weight}
use Rattle.rl_rewrite.proofs.sizes.+sizes.Given as goal

abbrev pub decreases-size_of : goal.decreases-size_of
decreases-size_of l = 2 * weight l.e.now

abbrev pub decreases-link_of : goal.decreases-link_of
decreases-link_of l = 2 * weight_of_link l.link.now

abbrev pub decreases-links_of : goal.decreases-links_of
decreases-links_of l = 2 * links_weight l.links.now + 1

abbrev pub invariant-links_of-loop-link : goal.invariant-links_of-loop-link
invariant-links_of-loop-link l = IsCut l.s
    × (chained_size l.s (map (operand l.alphabet (plains l.alphabet l.earlier)) (drop l.link-index l.links)) ≡ chained_size l.initial.s (map (operand l.alphabet (plains l.alphabet l.earlier)) l.links))
