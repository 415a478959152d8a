-- The walk over repetitions, and where it leaves an operand out.
use Rattle.std.proofs.Common.{◌≡◌, ℕ, zero, suc, ◌+◌, ◌-◌, ◌≤◌, Bool, true, false, cond, ◌&&◌, Option, Some, None, List, [], ◌∷◌, refl, ap, ◌∙◌, sym, subst, arith}
use Rattle.std.specs.Prelude.{is_none}
use Rattle.rl_types.specs.declared.numbers.Place.{Place}
use Rattle.rl_automata.specs.Nodes as n
use Rattle.rl_draft.specs.declared.expression.Repetition.{Repetition}
use Rattle.rl_draft.specs.declared.expression.Repetition.TheVariants as repetition
use Rattle.rl_rewrite.specs.declared.counts.Counts.{Counts}
use Rattle.rl_rewrite.specs.Plain.{Plain, repeated, all_repeated}
use Rattle.rl_rewrite.specs.Walk.{Placed, walk, has_copies, counted, single}
use Rattle.rl_rewrite.specs.Sizes.{nodes, count_nodes, row_nodes}
use Rattle.rl_rewrite.specs.Steps.{copies, are_copies, behind_uncopied, repeated_on, all_repeated_on, repetition_stamps, all_stamps}

walk_one : (r : Repetition) (p : Plain) (at : Place) (c : Counts) → copies r ≡ true → walk (repeated r p at) c ≡ repeated_on r at (walk p c).0 (walk p c).1
walk_one repetition.Star p at c h = refl
walk_one repetition.LongestStar p at c h = refl
walk_one repetition.Optional p at c h = refl
walk_one repetition.Plus p at c h = refl
walk_one (repetition.Count b) p at c h = ap (λ z. cond {A = Placed × Counts} z (counted b.least b.most at (walk p c).0 (walk p c).1) (single n.Null at, c)) h

walk_none : (r : Repetition) (p : Plain) (at : Place) (c : Counts) → copies r ≡ false → walk (repeated r p at) c ≡ (single n.Null at, c)
walk_none repetition.Star p at c h = absurd (cc)
walk_none repetition.LongestStar p at c h = absurd (cc)
walk_none repetition.Optional p at c h = absurd (cc)
walk_none repetition.Plus p at c h = absurd (cc)
walk_none (repetition.Count b) p at c h = ap (λ z. cond {A = Placed × Counts} z (counted b.least b.most at (walk p c).0 (walk p c).1) (single n.Null at, c)) h

first_of : (a b : Bool) → (a && b) ≡ true → a ≡ true
first_of true b h = refl
first_of false b h = h

rest_of : (a b : Bool) → (a && b) ≡ true → b ≡ true
rest_of true b h = h
rest_of false b h = absurd (cc)

pub walk_all : (rs : List Repetition) (p : Plain) (at : Place) (c : Counts) → are_copies rs ≡ true
    → walk (all_repeated rs p at) c ≡ all_repeated_on rs at (walk p c).0 (walk p c).1
walk_all [] p at c h = refl
walk_all (r ∷ rs) p at c h = walk_all rs (repeated r p at) at c (rest_of (copies r) (are_copies rs) h)
    ∙ ap (λ z. all_repeated_on rs at z.0 z.1) (walk_one r p at c (first_of (copies r) (are_copies rs) h))

behind_first : (a b : Bool) (r : Repetition) (rs : List Repetition)
    → cond (a && b) (r ∷ rs) (cond b (cond a (r ∷ rs) rs) (behind_uncopied rs)) ≡ cond b (cond a (r ∷ rs) rs) (behind_uncopied rs)
behind_first true true r rs = refl
behind_first true false r rs = refl
behind_first false b r rs = refl

pub behind_all : (rs : List Repetition) → cond (are_copies rs) rs (behind_uncopied rs) ≡ behind_uncopied rs
behind_all [] = refl
behind_all (r ∷ rs) = behind_first (copies r) (are_copies rs) r rs

-- where the rest make copies, the first does not
uncopied : (a b : Bool) → b ≡ true → (a && b) ≡ false → a ≡ false
uncopied true true e h = h
uncopied true false e h = absurd (cc)
uncopied false b e h = refl

behind_case : (b : Bool) (r : Repetition) (rs : List Repetition) (p : Plain) (at : Place) (c : Counts) → are_copies rs ≡ b → (copies r && are_copies rs) ≡ false
    → ((q : Plain) → are_copies rs ≡ false → walk (all_repeated rs q at) c ≡ all_repeated_on (behind_uncopied rs) at (single n.Null at) c)
    → walk (all_repeated rs (repeated r p at) at) c ≡ all_repeated_on (cond b (cond (copies r) (r ∷ rs) rs) (behind_uncopied rs)) at (single n.Null at) c
behind_case true r rs p at c e h f =
    let none = uncopied (copies r) (are_copies rs) e h in
    walk_all rs (repeated r p at) at c e ∙ ap (λ z. all_repeated_on rs at z.0 z.1) (walk_none r p at c none)
    ∙ ap (λ z. all_repeated_on (cond z (r ∷ rs) rs) at (single n.Null at) c) (sym none)
behind_case false r rs p at c e h f = f (repeated r p at) e

pub walk_uncopied : (rs : List Repetition) (p : Plain) (at : Place) (c : Counts) → are_copies rs ≡ false
    → walk (all_repeated rs p at) c ≡ all_repeated_on (behind_uncopied rs) at (single n.Null at) c
walk_uncopied [] p at c h = absurd (cc)
walk_uncopied (r ∷ rs) p at c h = behind_case (are_copies rs) r rs p at c refl h (λ q e. walk_uncopied rs q at c e)

-- ---- nodes

some_more : (least m k : ℕ) → k ≤ row_nodes (suc least) k m (k + 2)
some_more least m k = grind arith

maybe_more : (m k : ℕ) → k ≤ row_nodes 0 k (suc m) (k + 2)
maybe_more m k = grind arith

star_more : (least k : ℕ) → k + 1 ≤ row_nodes least k 1 (k + 1)
star_more least k = grind arith

pub count_more : (least : ℕ) (most : Option ℕ) (k : ℕ) → has_copies least most ≡ true → k + cond (is_none most) 1 0 ≤ count_nodes least most k
count_more least None k h = star_more least k
count_more zero (Some zero) k h = absurd (cc)
count_more zero (Some (suc m)) k h =
    let e : suc m - 0 ≡ suc m = omega arith in
    subst (λ z. k + 0 ≤ row_nodes 0 k z (k + 2)) (sym e) (omega (arith, maybe_more m k))
count_more (suc least) (Some m) k h = omega (arith, some_more least (m - suc least) k)

count_case : (b : Bool) (least : ℕ) (most : Option ℕ) (k : ℕ) → has_copies least most ≡ b → b ≡ true → k + cond (is_none most) 1 0 ≤ cond b (count_nodes least most k) 1
count_case true least most k e h = count_more least most k e
count_case false least most k e h = absurd (cc)

nodes_one : (r : Repetition) (p : Plain) (at : Place) → copies r ≡ true → nodes p + repetition_stamps r ≤ nodes (repeated r p at)
nodes_one repetition.Star p at h = omega arith
nodes_one repetition.LongestStar p at h = omega arith
nodes_one repetition.Optional p at h = omega arith
nodes_one repetition.Plus p at h = omega arith
nodes_one (repetition.Count b) p at h = count_case (has_copies b.least b.most) b.least b.most (nodes p) refl h

pub nodes_all : (rs : List Repetition) (p : Plain) (at : Place) → are_copies rs ≡ true → nodes p + all_stamps rs ≤ nodes (all_repeated rs p at)
nodes_all [] p at h = omega arith
nodes_all (r ∷ rs) p at h = omega (arith, nodes_all rs (repeated r p at) at (rest_of (copies r) (are_copies rs) h), nodes_one r p at (first_of (copies r) (are_copies rs) h))

stamps_case : (b : Bool) (r : Repetition) (rs : List Repetition) (p : Plain) (at : Place) → are_copies rs ≡ b → (copies r && are_copies rs) ≡ false
    → ((q : Plain) → are_copies rs ≡ false → all_stamps (behind_uncopied rs) ≤ nodes (all_repeated rs q at))
    → all_stamps (cond b (cond (copies r) (r ∷ rs) rs) (behind_uncopied rs)) ≤ nodes (all_repeated rs (repeated r p at) at)
stamps_case true r rs p at e h f =
    let none = uncopied (copies r) (are_copies rs) e h in
    subst (λ z. all_stamps (cond z (r ∷ rs) rs) ≤ nodes (all_repeated rs (repeated r p at) at)) (sym none) (omega (arith, nodes_all rs (repeated r p at) at e))
stamps_case false r rs p at e h f = f (repeated r p at) e

pub nodes_uncopied : (rs : List Repetition) (p : Plain) (at : Place) → are_copies rs ≡ false → all_stamps (behind_uncopied rs) ≤ nodes (all_repeated rs p at)
nodes_uncopied [] p at h = absurd (cc)
nodes_uncopied (r ∷ rs) p at h = stamps_case (are_copies rs) r rs p at refl h (λ q e. nodes_uncopied rs q at e)
