use Rattle.std.proofs.Common.{◌+◌, ◌*◌, ◌<◌, ◌∷◌, [], map, drop, ap, sym, ◌∙◌, arith, rules}
use Rattle.rl_rewrite.specs.Plain.{plain, operand, plains}
use Rattle.rl_rewrite.specs.Sizes.{nodes}
use Rattle.rl_rewrite.specs.Steps.{placed_of, chained_on, operand_nodes}
use Rattle.rl_rewrite.proofs.Weights.{weight, weight_of_link, links_weight, reach, link_falls, chain_weight}
use Rattle.rl_rewrite.proofs.ChainLaws.{links_left, chain_nodes, chain_walk}
use Rattle.rl_rewrite.proofs.walk.+walk.Goals as goal

pub walk_links-walk_link-requires : goal.walk_links-walk_link-requires
walk_links-walk_link-requires t c =
    let l = c.loop-link in
    let known = plains c.args.alphabet c.args.earlier.now in
    let xs = c.args.links.now in
    let x = c.link-item.result in
    let here = ap operand_nodes (links_left c.args.alphabet known xs l.link-index x (omega arith) c.link-item.is) in
    let less = link_falls xs l.link-index x (omega arith) c.link-item.is in
    let smaller : 4 * (reach c.args.earlier.now + weight_of_link x) + 1 < 4 * (reach c.args.earlier.now + links_weight xs) + 2 = omega (arith, less) in
    let room : l.counts.stamp + 3 * operand_nodes (operand c.args.alphabet known x ∷ []) < 4294967295 = omega (arith, here, l.invariant.0, c.requires.room.0) in
    let few = l.invariant.1 in
    search rules

pub walk_links-loop-link-preserved : goal.walk_links-loop-link-preserved
walk_links-loop-link-preserved t c =
    let l = c.loop-link in
    let known = plains c.args.alphabet c.args.earlier.now in
    let xs = c.args.links.now in
    let x = c.link-item.result in
    let rest = map (operand c.args.alphabet known) (drop (l.link-index + 1) xs) in
    let here = links_left c.args.alphabet known xs l.link-index x (omega arith) c.link-item.is in
    let sum = ap operand_nodes here in (
      omega (arith, sum, l.invariant.0, c.in_ok-x.ensures.stamp),
      c.in_ok-x.ensures.few,
      ap (λ z. chained_on c.args.alphabet c.args.at rest z.0 z.1) c.in_ok-x.ensures.tree
          ∙ ap (λ z. chained_on c.args.alphabet c.args.at z (placed_of l.x) l.counts) (sym here) ∙ l.invariant.2,
    )

pub walk-walk_chain-requires : goal.walk-walk_chain-requires
walk-walk_chain-requires t c =
    let known = plains c.args.alphabet c.args.earlier.now in
    let first = c.get.result.now in
    let links = c.as_slice.result.now in
    let n = chain_nodes c.args.alphabet known c.args.e.now first c.in-Chain.first links c.in-Chain.links c.in-Chain.at c.in-Chain.is c.get.ensures c.as_slice.ensures in
    let w = chain_weight c.args.e.now first c.in-Chain.first links c.in-Chain.links c.in-Chain.at c.in-Chain.is c.get.ensures c.as_slice.ensures in
    let smaller : 4 * (reach c.args.earlier.now + weight first + links_weight links) + 3 < 4 * (reach c.args.earlier.now + weight c.args.e.now) = omega (arith, w) in
    let room : c.args.counts.now.stamp + 3 * (nodes (plain c.args.alphabet known first) + operand_nodes (map (operand c.args.alphabet known) links)) < 4294967295 = omega (arith, n, c.requires.room.0) in
    let few = c.requires.room.1 in
    search rules

pub walk-returns-in_ok-r-in-Chain-clause-tree : goal.walk-returns-in_ok-r-in-Chain-clause-tree
walk-returns-in_ok-r-in-Chain-clause-tree t c =
    let known = plains c.args.alphabet c.args.earlier.now in
    c.in_ok-r-in-Chain.ensures.tree ∙ sym (chain_walk c.args.alphabet known c.args.e.now c.get.result.now c.in-Chain.first c.as_slice.result.now c.in-Chain.links c.in-Chain.at c.args.counts.now
    c.in-Chain.is c.get.ensures c.as_slice.ensures)

pub walk-returns-in_ok-r-in-Chain-clause-stamp : goal.walk-returns-in_ok-r-in-Chain-clause-stamp
walk-returns-in_ok-r-in-Chain-clause-stamp t c =
    let known = plains c.args.alphabet c.args.earlier.now in
    let n = chain_nodes c.args.alphabet known c.args.e.now c.get.result.now c.in-Chain.first c.as_slice.result.now c.in-Chain.links c.in-Chain.at c.in-Chain.is c.get.ensures c.as_slice.ensures in
    omega (arith, n, c.in_ok-r-in-Chain.ensures.stamp)
