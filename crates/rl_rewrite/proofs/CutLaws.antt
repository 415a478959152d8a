-- Sizes that are told only up to a million.
use Rattle.std.proofs.Common.{◌≡◌, ℕ, zero, suc, ◌+◌, ◌-◌, ◌*◌, ◌≤◌, ◌<◌, min, max, Bool, true, false, cond, List, [], ◌∷◌, ◌++◌, take, Option, Some, None, refl, ap, sym, subst, ◌∙◌, arith}
use Rattle.std.proofs.Common.{inl, inr, map, length, get_or}
use Rattle.std.proofs.lemmas.Option.{slice_get_read}
use Rattle.std.specs.Prelude.{slice_get, ◌⊎◌}
use Rattle.std.specs.Option.{option_map, unwrap_or}
use Rattle.std.proofs.Math.Nat.{mul-le-mul_left, mul-le-mul_right}
use Rattle.rl_types.specs.declared.alphabet.Alphabet.{Alphabet}
use Rattle.rl_types.specs.declared.numbers.Place.{Place}
use Rattle.rl_types.specs.KeyRange.{Range}
use Rattle.rl_draft.specs.declared.expression.Join.{Join}
use Rattle.rl_draft.specs.declared.expression.Join.TheVariants as join
use Rattle.rl_draft.specs.declared.expression.Repetition.{Repetition}
use Rattle.rl_draft.specs.declared.expression.Repetition.TheVariants as repetition
use Rattle.rl_draft.specs.declared.expression.Negation.{Negation}
use Rattle.rl_draft.specs.declared.expression.Negation.TheVariants as negation
use Rattle.rl_draft.specs.declared.expression.NegationSign.{NegationSign}
use Rattle.rl_draft.specs.declared.expression.Item.{Item}
use Rattle.rl_draft.specs.declared.expression.Expression.{Expression}
use Rattle.rl_draft.specs.declared.expression.Expression.TheVariants.{Chain, Repeated, Negated}
use Rattle.rl_draft.specs.declared.expression.Link.{Link}
use Rattle.rl_rewrite.proofs.ChainLaws.{chain_is, repeated_is, negated_is}
use Rattle.rl_draft.specs.declared.draft.Definition.{Definition}
use Rattle.rl_rewrite.proofs.NameLaws.{plains_at, plains_more, plains_count, plains_front}
use Rattle.rl_rewrite.specs.declared.sizes.Size.{Size}
use Rattle.rl_rewrite.specs.Plain as p
use Rattle.rl_rewrite.specs.Plain.{Plain, Operand, plain, operand, joined, chained, repeated, all_repeated, all_negated, whole, item, character, starred, behind, row, named, plains, value_plain}
use Rattle.rl_rewrite.specs.Walk.{has_copies}
use Rattle.rl_rewrite.specs.Sizes.{nodes, depth, row_nodes, row_depth, count_nodes, count_depth}
use Rattle.rl_rewrite.specs.Measures.{measured, cut, IsCut, both, joined_size, chained_size, one, repeated_size, all_repeated_size, whole_size, all_negated_size, item_size, items_size, cut_sizes, AreSizes}

pub same_size : (a b : Size) → a.nodes ≡ b.nodes → a.depth ≡ b.depth → a ≡ b
same_size a b e f = ap (λ z. record { nodes = z; depth = a.depth }) e ∙ ap (λ z. record { nodes = b.nodes; depth = z }) f

-- ---- products

-- a number and its cut
abbrev Cut : ℕ → ℕ → ℕ → Type 0
Cut c a x = ((a ≤ c) × (x ≡ a)) ⊎ ((c < a) × (x ≡ c))

number_cut : (c a : ℕ) → Cut c a (min c a)
number_cut c a = grind arith

-- the same, or both are over the bound
abbrev Alike : ℕ → ℕ → ℕ → Type 0
Alike c p q = (p ≡ q) ⊎ ((c < p) × (c < q))

over : (c x y : ℕ) → 1 ≤ x → c ≤ y → c < x * (y + 1)
over c x y h g = omega (arith, mul-le-mul_right (y + 1) h)

above : (c x y : ℕ) → 1 ≤ c → c ≤ x → 1 ≤ y → c < x * (y + 1)
above c x y p h g = let two : 2 ≤ y + 1 = omega arith in omega (arith, mul-le-mul_left x two)

-- so many copies, cut or not
product : (c a k x : ℕ) → 1 ≤ c → 1 ≤ k → Cut c a x → Alike c (x * (k + 1)) (a * (k + 1))
product c a k x p q (inl h) = inl (ap (λ z. z * (k + 1)) h.1)
product c a k x p q (inr h) = inr (above c x k p (omega arith) q, above c a k p (omega arith) q)

sum : (c p q s t : ℕ) → Alike c p q → Alike c s t → min c (p + s - 1) ≡ min c (q + t - 1)
sum c p q s t (inl h) (inl g) = omega arith
sum c p q s t (inl h) (inr g) = omega arith
sum c p q s t (inr h) (inl g) = omega arith
sum c p q s t (inr h) (inr g) = omega arith

-- the numbers of copies are cut
pub row_cut : (few k more j : ℕ) → 1 ≤ k → 1 ≤ j → min 1000000 (row_nodes (min 1000000 few) k (min 1000000 more) j) ≡ min 1000000 (row_nodes few k more j)
row_cut few k more j q s = sum 1000000 (min 1000000 few * (k + 1)) (few * (k + 1)) (min 1000000 more * (j + 1)) (more * (j + 1))
    (product 1000000 few k (min 1000000 few) (omega arith) q (number_cut 1000000 few)) (product 1000000 more j (min 1000000 more) (omega arith) s (number_cut 1000000 more))

-- so many copies of a tree, whose size is cut or not
product_inside : (c a k y : ℕ) → 1 ≤ k → Cut c k y → Alike c (a * (y + 1)) (a * (k + 1))
product_inside c a k y q (inl h) = inl (ap (λ z. a * (z + 1)) h.1)
product_inside c zero k y q (inr h) = inl (omega arith)
product_inside c (suc a) k y q (inr h) = inr (over c (suc a) y (omega arith) (omega arith), over c (suc a) k (omega arith) (omega arith))

-- a row of a tree and of a larger one, whose sizes are cut
abbrev bigger_row : ℕ → ℕ → ℕ → ℕ → ℕ
bigger_row few k more n = row_nodes few k more (k + n)

product_more : (c a k n y : ℕ) → 1 ≤ k → Cut c k y → Alike c (a * (y + n + 1)) (a * (k + n + 1))
product_more c a k n y q (inl h) = inl (ap (λ z. a * (z + n + 1)) h.1)
product_more c zero k n y q (inr h) = inl (omega arith)
product_more c (suc a) k n y q (inr h) = inr (over c (suc a) (y + n) (omega arith) (omega arith), over c (suc a) (k + n) (omega arith) (omega arith))

bigger_cut : (few k more n : ℕ) → 1 ≤ k → min 1000000 (bigger_row few (min 1000000 k) more n) ≡ min 1000000 (bigger_row few k more n)
bigger_cut few k more n q = sum 1000000 (few * (min 1000000 k + 1)) (few * (k + 1)) (more * (min 1000000 k + n + 1)) (more * (k + n + 1))
    (product_inside 1000000 few k (min 1000000 k) q (number_cut 1000000 k)) (product_more 1000000 more k n (min 1000000 k) q (number_cut 1000000 k))

-- ---- depths of rows

cut_suc : (n : ℕ) → min 1000000 (suc n) ≡ suc (min 999999 n)
cut_suc n = omega arith

pub row_depth_cut : (few d more e : ℕ) → 1 ≤ d → 1 ≤ e → min 1000000 (row_depth (min 1000000 few) d (min 1000000 more) e) ≡ min 1000000 (row_depth few d more e)
row_depth_cut zero d zero e h g = refl
row_depth_cut zero d (suc more) e h g = subst (λ z. min 1000000 (row_depth 0 d z e) ≡ min 1000000 (e + more)) (sym (cut_suc more)) (omega arith)
row_depth_cut (suc few) d zero e h g = subst (λ z. min 1000000 (row_depth z d 0 e) ≡ min 1000000 (d + few)) (sym (cut_suc few)) (omega arith)
row_depth_cut (suc few) d (suc more) e h g =
    subst (λ z. min 1000000 (row_depth z d (min 1000000 (suc more)) e) ≡ min 1000000 (max (d + few) e + (more + 1))) (sym (cut_suc few))
    (subst (λ z. min 1000000 (row_depth (suc (min 999999 few)) d z e) ≡ min 1000000 (max (d + few) e + (more + 1))) (sym (cut_suc more)) (omega arith))

pub row_depth_none : (d e : ℕ) → row_depth 0 d 0 e ≡ 1
row_depth_none d e = refl

pub row_depth_right : (few d more e : ℕ) → few ≡ 0 → 1 ≤ more → row_depth few d more e ≡ e + more - 1
row_depth_right zero d zero e h g = absurd (omega arith)
row_depth_right zero d (suc more) e h g = omega arith
row_depth_right (suc few) d more e h g = absurd (omega arith)

pub row_depth_left : (few d more e : ℕ) → 1 ≤ few → more ≡ 0 → row_depth few d more e ≡ d + few - 1
row_depth_left zero d more e h g = absurd (omega arith)
row_depth_left (suc few) d zero e h g = omega arith
row_depth_left (suc few) d (suc more) e h g = absurd (omega arith)

pub row_depth_both : (few d more e : ℕ) → 1 ≤ few → 1 ≤ more → row_depth few d more e ≡ max (d + few - 1) e + more
row_depth_both zero d more e h g = absurd (omega arith)
row_depth_both (suc few) d zero e h g = absurd (omega arith)
row_depth_both (suc few) d (suc more) e h g = omega arith

-- the depths of the items are cut
depth_inside : (few d more n : ℕ) → min 1000000 (row_depth few (min 1000000 d) more (min 1000000 d + n)) ≡ min 1000000 (row_depth few d more (d + n))
depth_inside zero d zero n = refl
depth_inside zero d (suc more) n = omega arith
depth_inside (suc few) d zero n = omega arith
depth_inside (suc few) d (suc more) n = omega arith

-- ---- joins

joined_cut : (j : Join) (a b : Size) → cut (joined_size j (cut a) (cut b)) ≡ cut (joined_size j a b)
joined_cut join.Union a b = same_size _ _ (omega arith) (omega arith)
joined_cut join.Intersection a b = same_size _ _ (omega arith) (omega arith)
joined_cut join.Difference a b = same_size _ _ (omega arith) (omega arith)
joined_cut join.StrongDifference a b = same_size _ _ (omega arith) (omega arith)
joined_cut join.Concatenation a b = same_size _ _ (omega arith) (omega arith)
joined_cut join.LeftGuarded a b = same_size _ _ (omega arith) (omega arith)
joined_cut join.EntryGuarded a b = same_size _ _ (omega arith) (omega arith)
joined_cut join.FinishGuarded a b = same_size _ _ (omega arith) (omega arith)

joined_measured : (alphabet : Alphabet) (j : Join) (a b : Plain) (at : Place) → measured (joined alphabet j a b at) ≡ joined_size j (measured a) (measured b)
joined_measured alphabet join.Union a b at = refl
joined_measured alphabet join.Intersection a b at = refl
joined_measured alphabet join.Difference a b at = refl
joined_measured alphabet join.StrongDifference a b at = same_size _ _ (omega arith) (omega arith)
joined_measured alphabet join.Concatenation a b at = refl
joined_measured alphabet join.LeftGuarded a b at = refl
joined_measured alphabet join.EntryGuarded a b at = refl
joined_measured alphabet join.FinishGuarded a b at = refl

pub chained_cut : (alphabet : Alphabet) (q : Plain) (os : List Operand) (at : Place) → chained_size (cut (measured q)) os ≡ cut (measured (chained alphabet q os at))
chained_cut alphabet q [] at = refl
chained_cut alphabet q (o ∷ os) at =
    ap (λ z. chained_size z os) (joined_cut o.join (measured q) (measured o.plain) ∙ ap cut (sym (joined_measured alphabet o.join q o.plain at)))
    ∙ chained_cut alphabet (joined alphabet o.join q o.plain at) os at

-- ---- negations

both_cut : (a b : Size) → cut (both a (cut b) 1 1) ≡ cut (both a b 1 1)
both_cut a b = same_size _ _ (omega arith) (omega arith)

whole_measured : (alphabet : Alphabet) (n : Negation) (at : Place) → measured (whole alphabet n at) ≡ whole_size n
whole_measured alphabet negation.Language at = refl
whole_measured alphabet negation.Character at = refl

pub negated_cut : (alphabet : Alphabet) (ns : List NegationSign) (q : Plain) → all_negated_size (cut (measured q)) ns ≡ cut (measured (all_negated alphabet ns q))
negated_cut alphabet [] q = refl
negated_cut alphabet (n ∷ ns) q =
    ap (λ z. cut (both (whole_size n.negation) z 1 1)) (negated_cut alphabet ns q) ∙ both_cut (whole_size n.negation) (measured (all_negated alphabet ns q))
    ∙ ap (λ z. cut (both z (measured (all_negated alphabet ns q)) 1 1)) (sym (whole_measured alphabet n.negation n.place))

-- ---- rows

both_left_cut : (a b : Size) → cut (both (cut a) b 1 1) ≡ cut (both a b 1 1)
both_left_cut a b = same_size _ _ (omega arith) (omega arith)

item_case : (b : Bool) (r : Option (List Range)) (at : Place) → measured (cond b (starred (character r at) at) (character r at)) ≡ cond b (record { nodes = 2; depth = 2 }) one
item_case true None at = refl
item_case true (Some r) at = refl
item_case false None at = refl
item_case false (Some r) at = refl

item_measured : (i : Item) (at : Place) → measured (item i at) ≡ item_size i
item_measured i at = item_case i.starred i.ranges at

items_cut : (q : Plain) (is : List Item) (at : Place) → items_size (cut (measured q)) is ≡ cut (measured (behind q is at))
items_cut q [] at = refl
items_cut q (i ∷ is) at =
    ap (λ z. items_size z is) (both_left_cut (measured q) (item_size i) ∙ ap (λ z. cut (both (measured q) z 1 1)) (sym (item_measured i at)))
    ∙ items_cut (p.Pair p.Then q (item i at) at) is at

item_bool : (b : Bool) → cut (cond b (record { nodes = 2; depth = 2 }) one) ≡ cond b (record { nodes = 2; depth = 2 }) one
item_bool true = refl
item_bool false = refl

item_is_cut : (i : Item) → cut (item_size i) ≡ item_size i
item_is_cut i = item_bool i.starred

pub row_sizes : (i : Item) (is : List Item) (at : Place) → items_size (item_size i) is ≡ cut (measured (row (i ∷ is) at))
row_sizes i is at = ap (λ z. items_size z is) (sym (item_is_cut i) ∙ ap cut (sym (item_measured i at))) ∙ items_cut (item i at) is at

-- ---- each tree has a node

first_copy : (least k x : ℕ) → 1 ≤ k → 1 ≤ suc least * (k + 1) + x - 1
first_copy least k x h = grind arith

some_copies : (least : ℕ) (most : Option ℕ) (k : ℕ) → has_copies least most ≡ true → 1 ≤ k → 1 ≤ count_nodes least most k
some_copies least None k h g = grind arith
some_copies zero (Some zero) k h g = absurd (cc)
some_copies zero (Some (suc m)) k h g = grind arith
some_copies (suc least) (Some m) k h g = first_copy least k ((m - suc least) * (k + 2 + 1)) g

some_levels : (few d more e : ℕ) → 1 ≤ d → 1 ≤ e → 1 ≤ row_depth few d more e
some_levels zero d zero e h g = omega arith
some_levels zero d (suc more) e h g = omega arith
some_levels (suc few) d zero e h g = omega arith
some_levels (suc few) d (suc more) e h g = omega arith

some_count : (least : ℕ) (most : Option ℕ) (d : ℕ) → 1 ≤ d → 1 ≤ count_depth least most d
some_count least None d h = some_levels least d 1 (d + 1) h (omega arith)
some_count least (Some most) d h = some_levels least d (most - least) (max d 1 + 1) h (omega arith)

nodes_case : (b : Bool) (least : ℕ) (most : Option ℕ) (k : ℕ) → has_copies least most ≡ b → 1 ≤ k → 1 ≤ cond b (count_nodes least most k) 1
nodes_case true least most k e h = some_copies least most k e h
nodes_case false least most k e h = omega arith

depth_case : (b : Bool) (least : ℕ) (most : Option ℕ) (d : ℕ) → 1 ≤ d → 1 ≤ cond b (count_depth least most d) 1
depth_case true least most d h = some_count least most d h
depth_case false least most d h = omega arith

pub nodes_some : (q : Plain) → 1 ≤ nodes q
nodes_some (p.Set ranges at) = omega arith
nodes_some (p.Null at) = omega arith
nodes_some (p.Nothing at) = omega arith
nodes_some (p.Pair pairing a b at) = omega arith
nodes_some (p.Guarded g a b at) = omega arith
nodes_some (p.Longest a at) = omega arith
nodes_some (p.Count a least most at) = nodes_case (has_copies least most) least most (nodes a) refl (nodes_some a)
nodes_some (p.Series a ps at) = omega (arith, nodes_some a)

pub depth_some : (q : Plain) → 1 ≤ depth q
depth_some (p.Set ranges at) = omega arith
depth_some (p.Null at) = omega arith
depth_some (p.Nothing at) = omega arith
depth_some (p.Pair pairing a b at) = omega arith
depth_some (p.Guarded g a b at) = omega arith
depth_some (p.Longest a at) = omega arith
depth_some (p.Count a least most at) = depth_case (has_copies least most) least most (depth a) (depth_some a)
depth_some (p.Series a ps at) = omega (arith, depth_some a)

-- ---- repetitions

count_cut_some : (least most : ℕ) (s : Size) → 1 ≤ s.nodes → 1 ≤ s.depth
    → cut (record { nodes = count_nodes least (Some most) (min 1000000 s.nodes); depth = count_depth least (Some most) (min 1000000 s.depth) })
    ≡ cut (record { nodes = count_nodes least (Some most) s.nodes; depth = count_depth least (Some most) s.depth })
count_cut_some least most s h g = same_size _ _ (bigger_cut least s.nodes (most - least) 2 h)
    (let e : max (min 1000000 s.depth) 1 + 1 ≡ min 1000000 s.depth + 1 = omega arith in
    let f : max s.depth 1 + 1 ≡ s.depth + 1 = omega arith in
    ap (λ z. min 1000000 (row_depth least (min 1000000 s.depth) (most - least) z)) e ∙ depth_inside least s.depth (most - least) 1
    ∙ ap (λ z. min 1000000 (row_depth least s.depth (most - least) z)) (sym f))

count_cut_any : (least : ℕ) (s : Size) → 1 ≤ s.nodes
    → cut (record { nodes = count_nodes least None (min 1000000 s.nodes); depth = count_depth least None (min 1000000 s.depth) })
    ≡ cut (record { nodes = count_nodes least None s.nodes; depth = count_depth least None s.depth })
count_cut_any least s h = same_size _ _ (bigger_cut least s.nodes 1 1 h) (depth_inside least s.depth 1 1)

count_case : (b : Bool) (least : ℕ) (most : Option ℕ) (s : Size) → 1 ≤ s.nodes → 1 ≤ s.depth
    → cut (cond b (record { nodes = count_nodes least most (min 1000000 s.nodes); depth = count_depth least most (min 1000000 s.depth) }) one)
    ≡ cut (cond b (record { nodes = count_nodes least most s.nodes; depth = count_depth least most s.depth }) one)
count_case true least None s h g = count_cut_any least s h
count_case true least (Some most) s h g = count_cut_some least most s h g
count_case false least most s h g = refl

repeated_one : (r : Repetition) (s : Size) → 1 ≤ s.nodes → 1 ≤ s.depth → cut (repeated_size r (cut s)) ≡ cut (repeated_size r s)
repeated_one repetition.Star s h g = count_case true 0 None s h g
repeated_one repetition.LongestStar s h g = same_size _ _ (omega arith) (omega arith)
repeated_one repetition.Optional s h g = count_case true 0 (Some 1) s h g
repeated_one repetition.Plus s h g = count_case true 1 None s h g
repeated_one (repetition.Count b) s h g = count_case (has_copies b.least b.most) b.least b.most s h g

size_case : (b : Bool) (least : ℕ) (most : Option ℕ) (k d : ℕ)
    → record { nodes = cond b (count_nodes least most k) 1; depth = cond b (count_depth least most d) 1 } ≡ cond {A = Size} b (record { nodes = count_nodes least most k; depth = count_depth least most d }) one
size_case true least most k d = refl
size_case false least most k d = refl

repeated_measured : (r : Repetition) (q : Plain) (at : Place) → measured (repeated r q at) ≡ repeated_size r (measured q)
repeated_measured repetition.Star q at = refl
repeated_measured repetition.LongestStar q at = refl
repeated_measured repetition.Optional q at = refl
repeated_measured repetition.Plus q at = refl
repeated_measured (repetition.Count b) q at = size_case (has_copies b.least b.most) b.least b.most (nodes q) (depth q)

pub repeated_cut : (rs : List Repetition) (q : Plain) (at : Place) → all_repeated_size (cut (measured q)) rs ≡ cut (measured (all_repeated rs q at))
repeated_cut [] q at = refl
repeated_cut (r ∷ rs) q at =
    ap (λ z. all_repeated_size z rs) (repeated_one r (measured q) (nodes_some q) (depth_some q) ∙ ap cut (sym (repeated_measured r q at)))
    ∙ repeated_cut rs (repeated r q at) at

-- ---- names

pub measured_cut : (q : Plain) → IsCut (cut (measured q))
measured_cut q = let k = nodes_some q in let d = depth_some q in (omega (arith, k), omega arith, omega (arith, d), omega arith)

named_case : (q : Option Plain) (s : Option Size) → s ≡ option_map (λ z. cut (measured z)) q → unwrap_or s one ≡ cut (measured (named q))
named_case None s e = ap (λ z. unwrap_or z one) e
named_case (Some q) s e = ap (λ z. unwrap_or z one) e

get_map : (qs : List Plain) (i : ℕ) → slice_get (cut_sizes qs) i ≡ option_map (λ z. cut (measured z)) (slice_get qs i)
get_map [] i = refl
get_map (q ∷ qs) zero = refl
get_map (q ∷ qs) (suc i) = get_map qs i

-- the size of what the number of a definition stands for
pub named_size : (qs : List Plain) (sizes : List Size) (i : ℕ) → sizes ≡ cut_sizes qs → unwrap_or (slice_get sizes i) one ≡ cut (measured (named (slice_get qs i)))
named_size qs sizes i e = named_case (slice_get qs i) (slice_get sizes i) (ap (λ z. slice_get z i) e ∙ get_map qs i)

cut_append : (qs : List Plain) (q : Plain) → cut_sizes (qs ++ q ∷ []) ≡ cut_sizes qs ++ cut (measured q) ∷ []
cut_append [] q = refl
cut_append (x ∷ qs) q = ap (λ z. cut (measured x) ∷ z) (cut_append qs q)

-- the sizes of one definition more
pub sizes_more : (alphabet : Alphabet) (ds : List Definition) (sizes : List Size) (s : Size) (i : ℕ) (d : Definition) → slice_get ds i ≡ Some d → AreSizes alphabet (take i ds) sizes
    → s ≡ cut (measured (value_plain alphabet (plains alphabet (take i ds)) d.value)) → AreSizes alphabet (take (i + 1) ds) (sizes ++ s ∷ [])
sizes_more alphabet ds sizes s i d e h k =
    ap (λ z. z ++ s ∷ []) h ∙ ap (λ z. cut_sizes (plains alphabet (take i ds)) ++ z ∷ []) k
    ∙ sym (cut_append (plains alphabet (take i ds)) (value_plain alphabet (plains alphabet (take i ds)) d.value))
    ∙ ap cut_sizes (sym (plains_more alphabet ds i d e))

-- the size of a definition
pub size_at : (alphabet : Alphabet) (ds : List Definition) (sizes : List Size) (i : ℕ) (d : Definition) → AreSizes alphabet ds sizes → slice_get ds i ≡ Some d
    → slice_get sizes i ≡ Some (cut (measured (value_plain alphabet (plains alphabet (take i ds)) d.value)))
size_at alphabet ds sizes i d h e = ap (λ z. slice_get z i) h ∙ get_map (plains alphabet ds) i ∙ ap (option_map (λ z. cut (measured z))) (plains_at alphabet ds i d e)

-- the size of a chain, by its parts
pub chain_size : (alphabet : Alphabet) (known : List Plain) (e f a : Expression) (ls os : List Link) (at : Place) (s : Size) → e ≡ Chain a os at → f ≡ a → ls ≡ os
    → s ≡ cut (measured (plain alphabet known f)) → chained_size s (map (operand alphabet known) ls) ≡ cut (measured (plain alphabet known e))
chain_size alphabet known e f a ls os at s h g k i =
    ap (λ z. chained_size z (map (operand alphabet known) ls)) i ∙ chained_cut alphabet (plain alphabet known f) (map (operand alphabet known) ls) at
    ∙ ap (λ z. cut (measured z)) (sym (chain_is alphabet known e f a ls os at h g k))

-- the sizes of repetitions and negations, by their parts
pub repeated_whole : (alphabet : Alphabet) (known : List Plain) (e f a : Expression) (ls rs : List Repetition) (at : Place) (s : Size) → e ≡ Repeated a rs at → f ≡ a → ls ≡ rs
    → s ≡ cut (measured (plain alphabet known f)) → all_repeated_size s ls ≡ cut (measured (plain alphabet known e))
repeated_whole alphabet known e f a ls rs at s h g k i =
    ap (λ z. all_repeated_size z ls) i ∙ repeated_cut ls (plain alphabet known f) at ∙ ap (λ z. cut (measured z)) (sym (repeated_is alphabet known e f a ls rs at h g k))

pub negated_whole : (alphabet : Alphabet) (known : List Plain) (e f a : Expression) (ls ns : List NegationSign) (s : Size) → e ≡ Negated ns a → f ≡ a → ls ≡ ns
    → s ≡ cut (measured (plain alphabet known f)) → all_negated_size s ls ≡ cut (measured (plain alphabet known e))
negated_whole alphabet known e f a ls ns s h g k i =
    ap (λ z. all_negated_size z ls) i ∙ negated_cut alphabet ls (plain alphabet known f) ∙ ap (λ z. cut (measured z)) (sym (negated_is alphabet known e f a ls ns h g k))

-- the cut of a size is cut
pub known_cut : (q : Plain) (s : Size) → s ≡ cut (measured q) → IsCut s
known_cut q s e = subst IsCut (sym e) (measured_cut q)

cut_length : (qs : List Plain) → length (cut_sizes qs) ≡ length qs
cut_length [] = refl
cut_length (q ∷ qs) = ap suc (cut_length qs)

pub sizes_length : (alphabet : Alphabet) (ds : List Definition) (sizes : List Size) → AreSizes alphabet ds sizes → length sizes ≡ length ds
sizes_length alphabet ds sizes h = ap length h ∙ cut_length (plains alphabet ds) ∙ plains_count alphabet ds

sizes_take : (qs : List Plain) (i : ℕ) → take i (cut_sizes qs) ≡ cut_sizes (take i qs)
sizes_take [] zero = refl
sizes_take [] (suc i) = refl
sizes_take (q ∷ qs) zero = refl
sizes_take (q ∷ qs) (suc i) = ap (λ z. cut (measured q) ∷ z) (sizes_take qs i)

-- the sizes of the definitions before one
pub sizes_front : (alphabet : Alphabet) (ds b : List Definition) (sizes front : List Size) (i : ℕ) → AreSizes alphabet ds sizes → i < length ds → b ≡ take i ds → front ≡ take i sizes → AreSizes alphabet b front
sizes_front alphabet ds b sizes front i h lt e g =
    g ∙ ap (take i) h ∙ sizes_take (plains alphabet ds) i ∙ ap cut_sizes (plains_front alphabet ds i (omega (arith, lt))) ∙ ap (λ z. cut_sizes (plains alphabet z)) (sym e)

-- the sizes with that of a definition that is read from the list
pub sizes_next : (alphabet : Alphabet) (ds b : List Definition) (sizes more : List Size) (s : Size) (i : ℕ) (d : Definition) → AreSizes alphabet (take i ds) sizes → i < length ds → d ≡ get_or ds i d
    → b ≡ take i ds → s ≡ cut (measured (value_plain alphabet (plains alphabet b) d.value)) → more ≡ sizes ++ s ∷ [] → AreSizes alphabet (take (i + 1) ds) more
sizes_next alphabet ds b sizes more s i d h lt e l k m =
    let got = slice_get_read ds (length ds) i d refl lt e in
    m ∙ sizes_more alphabet ds sizes s i d got h (k ∙ ap (λ z. cut (measured (value_plain alphabet (plains alphabet z) d.value))) l)
