-- Laws of functions by steps.
use Rattle.std.proofs.Common.{◌≡◌, ℕ, ◌+◌, ◌≤◌, ◌⊎◌, Bool, true, false, cond, List, [], ◌∷◌, ◌++◌, length, map, refl, sym, ap, ◌∙◌, inl, inr, arith}
use Rattle.std.specs.Prelude.{ℤ, ◌≤ℤ◌, ◌<ℤ◌, int_le}
use Rattle.std.specs.Ordering.{int_eq}
use Rattle.std.proofs.lemmas.Int.{ints}
use Rattle.rl_classes.specs.declared.steps.Step.{Step}
use Rattle.rl_classes.specs.Steps.{IsBelowFirst, Ascend, froms, value_from, passed}

-- what tests of keys say
pub le_from : (x y : ℤ) → int_le x y ≡ true → x ≤ℤ y
le_from x y e = grind (arith, ints)

pub above_from : (x y : ℤ) → int_le x y ≡ false → y <ℤ x
above_from x y e = grind (arith, ints)

pub le_true : (x y : ℤ) → x ≤ℤ y → int_le x y ≡ true
le_true x y h = grind (arith, ints)

pub le_false : (x y : ℤ) → y <ℤ x → int_le x y ≡ false
le_false x y h = grind (arith, ints)

pub cases_le : (x y : ℤ) → (x ≤ℤ y) ⊎ (y <ℤ x)
cases_le x y = (elim (int_le x y) as (λ b. int_le x y ≡ b → (x ≤ℤ y) ⊎ (y <ℤ x)) [ true ↦ λ e. inl (le_from x y e) | false ↦ λ e. inr (above_from x y e) ]) refl

pub eq_from : (x y : ℤ) → int_eq x y ≡ true → x ≡ y
eq_from x y e = grind (arith, ints)

pub other_from : (x y : ℤ) → int_eq x y ≡ false → x ≡ y → ⊥
other_from x y e h = grind (arith, ints)

-- one more step behind the others
pub value_from-push : {T : Type 0} → (first : T) (xs : List (Step T)) (s : Step T) (key : ℤ) → value_from first (xs ++ s ∷ []) key ≡ cond (int_le s.from key) s.value (value_from first xs key)
value_from-push first [] s key = refl
value_from-push first (x ∷ xs) s key = value_from-push (cond (int_le x.from key) x.value first) xs s key

pub froms-append : {T : Type 0} → (xs ys : List (Step T)) → froms (xs ++ ys) ≡ froms xs ++ froms ys
froms-append [] ys = refl
froms-append (x ∷ xs) ys = ap (λ ks. x.from ∷ ks) (froms-append xs ys)

-- a list that ascends, cut in two
pub front_ascends : (xs : List ℤ) (key : ℤ) (ys : List ℤ) → Ascend (xs ++ key ∷ ys) → Ascend (xs ++ key ∷ [])
front_ascends [] key ys h = (tt, tt)
front_ascends (x ∷ []) key ys h = (h.0, front_ascends [] key ys h.1)
front_ascends (x ∷ y ∷ xs) key ys h = (h.0, front_ascends (y ∷ xs) key ys h.1)

pub back_ascends : (xs ys : List ℤ) → Ascend (xs ++ ys) → Ascend ys
back_ascends [] ys h = h
back_ascends (x ∷ xs) ys h = back_ascends xs ys h.1

pub join_ascends : (xs : List ℤ) (key : ℤ) (ys : List ℤ) → Ascend (xs ++ key ∷ []) → IsBelowFirst key ys → Ascend ys → Ascend (xs ++ key ∷ ys)
join_ascends [] key ys h below up = (below, up)
join_ascends (x ∷ []) key ys h below up = (h.0, join_ascends [] key ys h.1 below up)
join_ascends (x ∷ y ∷ xs) key ys h below up = (h.0, join_ascends (y ∷ xs) key ys h.1 below up)
