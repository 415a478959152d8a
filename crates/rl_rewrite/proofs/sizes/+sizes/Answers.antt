use Rattle.std.proofs.Common.{◌+◌, ◌*◌, ◌<◌, map, drop, ap, sym, ◌∙◌, arith, rules}
use Rattle.rl_rewrite.specs.Plain.{plain, operand, plains}
use Rattle.rl_rewrite.specs.Measures.{chained_size}
use Rattle.rl_rewrite.proofs.Weights.{weight, weight_of_link, links_weight, link_falls, chain_weight}
use Rattle.rl_rewrite.proofs.ChainLaws.{links_left}
use Rattle.rl_rewrite.proofs.CutLaws.{known_cut, chain_size, repeated_whole, negated_whole}
use Rattle.rl_rewrite.proofs.sizes.+sizes.Goals as goal

pub links_of-link_of-s-requires : goal.links_of-link_of-s-requires
links_of-link_of-s-requires t c =
    let l = c.loop-link in
    let xs = c.args.links.now in
    let x = c.link-item.result in
    let less = link_falls xs l.link-index x (omega arith) c.link-item.is in
    let smaller : 2 * weight_of_link x < 2 * links_weight xs + 1 = omega (arith, less) in
    let known = c.requires.sizes in
    let cut = l.invariant.0 in
    search rules

pub links_of-loop-link-preserved : goal.links_of-loop-link-preserved
links_of-loop-link-preserved t c =
    let l = c.loop-link in
    let known = plains c.args.alphabet c.args.earlier.now in
    let xs = c.args.links.now in
    let x = c.link-item.result in
    let rest = map (operand c.args.alphabet known) (drop (l.link-index + 1) xs) in
    let here = links_left c.args.alphabet known xs l.link-index x (omega arith) c.link-item.is in
    (c.link_of-s.ensures.cut, ap (λ z. chained_size z rest) c.link_of-s.ensures.size ∙ ap (λ z. chained_size l.s z) (sym here) ∙ l.invariant.1)

pub size_of-links_of-requires : goal.size_of-links_of-requires
size_of-links_of-requires t c =
    let first = c.get.result.now in
    let links = c.as_slice.result.now in
    let w = chain_weight c.args.e.now first c.in-Chain.first links c.in-Chain.links c.in-Chain.field-2 c.in-Chain.is c.get.ensures c.as_slice.ensures in
    let smaller : 2 * links_weight links + 1 < 2 * weight c.args.e.now = omega (arith, w) in
    let known = c.requires in
    let cut = known_cut (plain c.args.alphabet (plains c.args.alphabet c.args.earlier.now) first) c.size_of-s.result c.size_of-s.ensures.size in
    search rules

pub size_of-all_repeated_of-requires : goal.size_of-all_repeated_of-requires
size_of-all_repeated_of-requires t c = known_cut (plain c.args.alphabet (plains c.args.alphabet c.args.earlier.now) c.get-in-Repeated.result.now) c.size_of.result c.size_of.ensures.size

pub size_of-all_negated_of-requires : goal.size_of-all_negated_of-requires
size_of-all_negated_of-requires t c = known_cut (plain c.args.alphabet (plains c.args.alphabet c.args.earlier.now) c.get-in-Negated.result.now) c.size_of-in-Negated.result c.size_of-in-Negated.ensures.size

pub size_of-raised-requires : goal.size_of-raised-requires
size_of-raised-requires t c = known_cut (plain c.args.alphabet (plains c.args.alphabet c.args.earlier.now) c.get-in-Embedded.result.now) c.size_of-s-in-Embedded.result c.size_of-s-in-Embedded.ensures.size

pub size_of-returns-in-Chain : goal.size_of-returns-in-Chain
size_of-returns-in-Chain t c = record {
  size = c.links_of.ensures.size ∙ chain_size c.args.alphabet (plains c.args.alphabet c.args.earlier.now) c.args.e.now c.get.result.now c.in-Chain.first c.as_slice.result.now c.in-Chain.links c.in-Chain.field-2
      c.size_of-s.result c.in-Chain.is c.get.ensures c.as_slice.ensures c.size_of-s.ensures.size;
}

pub size_of-returns-in-Repeated : goal.size_of-returns-in-Repeated
size_of-returns-in-Repeated t c = record {
  size = c.all_repeated_of.ensures.size ∙ repeated_whole c.args.alphabet (plains c.args.alphabet c.args.earlier.now) c.args.e.now c.get-in-Repeated.result.now c.in-Repeated.a c.as_slice-in-Repeated.result.now c.in-Repeated.rs
      c.in-Repeated.field-2 c.size_of.result c.in-Repeated.is c.get-in-Repeated.ensures c.as_slice-in-Repeated.ensures c.size_of.ensures.size;
}

pub size_of-returns-in-Negated : goal.size_of-returns-in-Negated
size_of-returns-in-Negated t c = record {
  size = c.all_negated_of.ensures.size ∙ negated_whole c.args.alphabet (plains c.args.alphabet c.args.earlier.now) c.args.e.now c.get-in-Negated.result.now c.in-Negated.a c.as_slice-in-Negated.result.now c.in-Negated.ns
      c.size_of-in-Negated.result c.in-Negated.is c.get-in-Negated.ensures c.as_slice-in-Negated.ensures c.size_of-in-Negated.ensures.size;
}
