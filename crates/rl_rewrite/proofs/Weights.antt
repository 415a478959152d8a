-- How much of an expression and of the definitions before it is left to walk.
use Rattle.std.proofs.Common.{◌≡◌, ℕ, zero, suc, ◌+◌, ◌<◌, ◌≤◌, List, [], ◌∷◌, length, take, get_or, Option, Some, None, map, refl, ap, sym, ◌∙◌, arith}
use Rattle.std.specs.Prelude.{slice_get}
use Rattle.rl_draft.specs.declared.expression.Expression.{Expression}
use Rattle.rl_draft.specs.declared.expression.Expression.TheOpen.{Expression-F, Link-F}
use Rattle.rl_draft.specs.declared.expression.Expression.TheOpen as level
use Rattle.rl_draft.specs.declared.expression.Expression.TheFolds.{fold-Expression, fold-Link, fold-roll-Expression}
use Rattle.rl_draft.specs.declared.expression.Expression.TheVariants.{Chain, rolls-Chain}
use Rattle.rl_types.specs.declared.numbers.Place.{Place}
use Rattle.rl_draft.specs.declared.expression.Link.{Link}
use Rattle.rl_draft.specs.declared.draft.Definition.{Definition}
use Rattle.rl_draft.specs.declared.draft.Value.{Value}
use Rattle.rl_draft.specs.declared.draft.Value.TheVariants as value

abbrev total : List ℕ → ℕ
total [] = 0
total (k ∷ ks) = k + total ks

abbrev expression_weight : Expression-F ℕ ℕ → ℕ
expression_weight (level.Leaf l at) = 1
expression_weight (level.Name n) = 1
expression_weight (level.Chain k ks at) = k + total ks + 1
expression_weight (level.Repeated k rs at) = k + 1
expression_weight (level.Negated ns k) = k + length ns + 1
expression_weight (level.Embedded k ps at) = k + 1

abbrev link_weight : Link-F ℕ ℕ → ℕ
link_weight l = l.operand + 1

abbrev pub weight : Expression → ℕ
weight = fold-Expression ℕ ℕ expression_weight link_weight

abbrev pub weight_of_link : Link → ℕ
weight_of_link = fold-Link ℕ ℕ expression_weight link_weight

abbrev pub links_weight : List Link → ℕ
links_weight [] = 0
links_weight (l ∷ ls) = weight_of_link l + links_weight ls

abbrev pub value_weight : Value → ℕ
value_weight (value.Expression e) = weight e
value_weight (value.Scanner ps at) = 0

abbrev pub reach : List Definition → ℕ
reach [] = 0
reach (d ∷ ds) = value_weight d.value + 1 + reach ds

abbrev given_weight : Option Definition → ℕ
given_weight None = 0
given_weight (Some d) = value_weight d.value

abbrev given_link : Option Link → ℕ
given_link None = 0
given_link (Some l) = weight_of_link l

pub links_fall : (ls : List Link) (i : ℕ) (l : Link) → slice_get ls i ≡ Some l → weight_of_link l ≤ links_weight ls
links_fall [] i l e = absurd (cc)
links_fall (x ∷ ls) zero l e = omega (arith, ap given_link e)
links_fall (x ∷ ls) (suc i) l e = omega (arith, links_fall ls i l e)

pub reach_falls : (ds : List Definition) (i : ℕ) (d : Definition) → slice_get ds i ≡ Some d → reach (take i ds) + value_weight d.value + 1 ≤ reach ds
reach_falls [] i d e = absurd (cc)
reach_falls (x ∷ ds) zero d e = omega (arith, ap given_weight e)
reach_falls (x ∷ ds) (suc i) d e = omega (arith, reach_falls ds i d e)

-- one of the operands
pub link_falls : (ls : List Link) (i : ℕ) (l : Link) → i < length ls → l ≡ get_or ls i l → weight_of_link l ≤ links_weight ls
link_falls [] i l h e = absurd (omega arith)
link_falls (x ∷ ls) zero l h e = omega (arith, ap weight_of_link e)
link_falls (x ∷ ls) (suc i) l h e = omega (arith, link_falls ls i l (omega arith) e)

total_links : (ls : List Link) → total (map weight_of_link ls) ≡ links_weight ls
total_links [] = refl
total_links (l ∷ ls) = ap (λ z. weight_of_link l + z) (total_links ls)

weight_chain : (a : Expression) (os : List Link) (at : Place) → weight (Chain a os at) ≡ weight a + total (map weight_of_link os) + 1
weight_chain a os at = ap weight (sym (rolls-Chain a os at)) ∙ fold-roll-Expression ℕ ℕ expression_weight link_weight (level.Chain a os at)

pub chain_weight : (e f a : Expression) (ls os : List Link) (at : Place) → e ≡ Chain a os at → f ≡ a → ls ≡ os → weight f + links_weight ls + 1 ≡ weight e
chain_weight e f a ls os at h g k =
    ap (λ z. weight z + links_weight ls + 1) g ∙ ap (λ z. weight a + links_weight z + 1) k ∙ ap (λ z. weight a + z + 1) (sym (total_links os))
    ∙ sym (weight_chain a os at) ∙ ap weight (sym h)
