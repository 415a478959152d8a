-- The walk over chains.
use Rattle.std.proofs.Common.{◌≡◌, ℕ, ◌+◌, ◌<◌, List, [], ◌∷◌, length, map, drop, get_or, refl, ap, sym, ◌∙◌, arith}
use Rattle.std.proofs.lemmas.List.{drop_more}
use Rattle.rl_draft.specs.declared.expression.Expression.{Expression}
use Rattle.rl_draft.specs.declared.expression.Expression.TheOpen as level
use Rattle.rl_draft.specs.declared.expression.Expression.TheVariants.{Chain, Repeated, Negated, rolls-Chain, rolls-Repeated, rolls-Negated}
use Rattle.rl_draft.specs.declared.expression.Repetition.{Repetition}
use Rattle.rl_draft.specs.declared.expression.NegationSign.{NegationSign}
use Rattle.rl_draft.specs.declared.expression.Expression.TheFolds.{fold-roll-Expression}
use Rattle.rl_draft.specs.declared.expression.Link.{Link}
use Rattle.rl_types.specs.declared.alphabet.Alphabet.{Alphabet}
use Rattle.rl_types.specs.declared.numbers.Place.{Place}
use Rattle.rl_draft.specs.declared.expression.Join.{Join}
use Rattle.rl_draft.specs.declared.expression.Join.TheVariants as join
use Rattle.rl_rewrite.specs.declared.counts.Counts.{Counts}
use Rattle.rl_rewrite.specs.Plain.{Plain, Operand, operand, plain, expression_step, link_step, joined, chained, all_repeated, all_negated}
use Rattle.rl_rewrite.specs.Walk.{walk}
use Rattle.rl_rewrite.specs.Sizes.{nodes}
use Rattle.rl_rewrite.specs.Steps.{joined_on, chained_on, chained_behind, join_nodes, operand_nodes}

walk_joined : (alphabet : Alphabet) (j : Join) (a b : Plain) (at : Place) (c : Counts)
    → walk (joined alphabet j a b at) c ≡ joined_on alphabet at (record { join = j; plain = b }) (walk a c).0 (walk a c).1
walk_joined alphabet join.Union a b at c = refl
walk_joined alphabet join.Intersection a b at c = refl
walk_joined alphabet join.Difference a b at c = refl
walk_joined alphabet join.StrongDifference a b at c = refl
walk_joined alphabet join.Concatenation a b at c = refl
walk_joined alphabet join.LeftGuarded a b at c = refl
walk_joined alphabet join.EntryGuarded a b at c = refl
walk_joined alphabet join.FinishGuarded a b at c = refl

pub walk_chained : (alphabet : Alphabet) (p : Plain) (os : List Operand) (at : Place) (c : Counts)
    → walk (chained alphabet p os at) c ≡ chained_behind alphabet at p os c
walk_chained alphabet p [] at c = refl
walk_chained alphabet p (o ∷ os) at c = walk_chained alphabet (joined alphabet o.join p o.plain at) os at c
    ∙ ap (λ z. chained_on alphabet at os z.0 z.1) (walk_joined alphabet o.join p o.plain at c)

nodes_joined : (alphabet : Alphabet) (j : Join) (a b : Plain) (at : Place) → nodes (joined alphabet j a b at) ≡ nodes a + nodes b + join_nodes j
nodes_joined alphabet join.Union a b at = refl
nodes_joined alphabet join.Intersection a b at = refl
nodes_joined alphabet join.Difference a b at = refl
nodes_joined alphabet join.StrongDifference a b at = omega arith
nodes_joined alphabet join.Concatenation a b at = refl
nodes_joined alphabet join.LeftGuarded a b at = refl
nodes_joined alphabet join.EntryGuarded a b at = refl
nodes_joined alphabet join.FinishGuarded a b at = refl

pub nodes_chained : (alphabet : Alphabet) (p : Plain) (os : List Operand) (at : Place) → nodes (chained alphabet p os at) ≡ nodes p + operand_nodes os
nodes_chained alphabet p [] at = omega arith
nodes_chained alphabet p (o ∷ os) at = omega (arith, nodes_chained alphabet (joined alphabet o.join p o.plain at) os at, nodes_joined alphabet o.join p o.plain at)

-- the operands from an index on
pub links_left : (alphabet : Alphabet) (known : List Plain) (links : List Link) (i : ℕ) (l : Link) → i < length links → l ≡ get_or links i l
    → map (operand alphabet known) (drop i links) ≡ operand alphabet known l ∷ map (operand alphabet known) (drop (i + 1) links)
links_left alphabet known links i l h e = ap (map (operand alphabet known)) (drop_more links i l h ∙ ap (λ y. y ∷ drop (i + 1) links) (sym e))

plain_chain : (alphabet : Alphabet) (known : List Plain) (a : Expression) (os : List Link) (at : Place)
    → plain alphabet known (Chain a os at) ≡ chained alphabet (plain alphabet known a) (map (operand alphabet known) os) at
plain_chain alphabet known a os at = ap (plain alphabet known) (sym (rolls-Chain a os at)) ∙ fold-roll-Expression Plain Operand (expression_step alphabet known) link_step (level.Chain a os at)

pub chain_is : (alphabet : Alphabet) (known : List Plain) (e f a : Expression) (ls os : List Link) (at : Place) → e ≡ Chain a os at → f ≡ a → ls ≡ os
    → plain alphabet known e ≡ chained alphabet (plain alphabet known f) (map (operand alphabet known) ls) at
chain_is alphabet known e f a ls os at h g k =
    ap (plain alphabet known) h ∙ plain_chain alphabet known a os at
    ∙ ap (λ z. chained alphabet (plain alphabet known z) (map (operand alphabet known) os) at) (sym g)
    ∙ ap (λ z. chained alphabet (plain alphabet known f) (map (operand alphabet known) z) at) (sym k)

-- of a chain's parts
pub chain_nodes : (alphabet : Alphabet) (known : List Plain) (e f a : Expression) (ls os : List Link) (at : Place) → e ≡ Chain a os at → f ≡ a → ls ≡ os
    → nodes (plain alphabet known e) ≡ nodes (plain alphabet known f) + operand_nodes (map (operand alphabet known) ls)
chain_nodes alphabet known e f a ls os at h g k =
    ap nodes (chain_is alphabet known e f a ls os at h g k) ∙ nodes_chained alphabet (plain alphabet known f) (map (operand alphabet known) ls) at

pub chain_walk : (alphabet : Alphabet) (known : List Plain) (e f a : Expression) (ls os : List Link) (at : Place) (c : Counts) → e ≡ Chain a os at → f ≡ a → ls ≡ os
    → walk (plain alphabet known e) c ≡ chained_behind alphabet at (plain alphabet known f) (map (operand alphabet known) ls) c
chain_walk alphabet known e f a ls os at c h g k =
    ap (λ z. walk z c) (chain_is alphabet known e f a ls os at h g k) ∙ walk_chained alphabet (plain alphabet known f) (map (operand alphabet known) ls) at c

plain_repeated : (alphabet : Alphabet) (known : List Plain) (a : Expression) (rs : List Repetition) (at : Place) → plain alphabet known (Repeated a rs at) ≡ all_repeated rs (plain alphabet known a) at
plain_repeated alphabet known a rs at = ap (plain alphabet known) (sym (rolls-Repeated a rs at)) ∙ fold-roll-Expression Plain Operand (expression_step alphabet known) link_step (level.Repeated a rs at)

plain_negated : (alphabet : Alphabet) (known : List Plain) (ns : List NegationSign) (a : Expression) → plain alphabet known (Negated ns a) ≡ all_negated alphabet ns (plain alphabet known a)
plain_negated alphabet known ns a = ap (plain alphabet known) (sym (rolls-Negated ns a)) ∙ fold-roll-Expression Plain Operand (expression_step alphabet known) link_step (level.Negated ns a)

pub repeated_is : (alphabet : Alphabet) (known : List Plain) (e f a : Expression) (ls rs : List Repetition) (at : Place) → e ≡ Repeated a rs at → f ≡ a → ls ≡ rs
    → plain alphabet known e ≡ all_repeated ls (plain alphabet known f) at
repeated_is alphabet known e f a ls rs at h g k =
    ap (plain alphabet known) h ∙ plain_repeated alphabet known a rs at ∙ ap (λ z. all_repeated rs (plain alphabet known z) at) (sym g) ∙ ap (λ z. all_repeated z (plain alphabet known f) at) (sym k)

pub negated_is : (alphabet : Alphabet) (known : List Plain) (e f a : Expression) (ls ns : List NegationSign) → e ≡ Negated ns a → f ≡ a → ls ≡ ns
    → plain alphabet known e ≡ all_negated alphabet ls (plain alphabet known f)
negated_is alphabet known e f a ls ns h g k =
    ap (plain alphabet known) h ∙ plain_negated alphabet known ns a ∙ ap (λ z. all_negated alphabet ns (plain alphabet known z)) (sym g) ∙ ap (λ z. all_negated alphabet z (plain alphabet known f)) (sym k)
