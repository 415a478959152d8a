-- Two functions by steps made one, of pairs.
use Rattle.std.proofs.Common.{◌≡◌, ℕ, suc, ◌+◌, ◌<◌, ◌≤◌, ◌⊎◌, Bool, true, false, cond, List, [], ◌∷◌, ◌++◌, length, map, Option, Some, None, refl, sym, ap, ◌∙◌, subst, inl, inr, arith, append_assoc, length-append}
use Rattle.std.specs.Prelude.{ℤ, ◌≤ℤ◌, ◌<ℤ◌, int_le}
use Rattle.std.specs.Int.{int_min}
use Rattle.std.specs.Ordering.{int_eq}
use Rattle.std.proofs.lemmas.Int.{ints, int_min_is}
use Rattle.std.proofs.lemmas.List.{append-nil}
use Rattle.rl_classes.specs.declared.steps.Step.{Step}
use Rattle.rl_classes.specs.Steps.{IsBelowFirst, Ascend, froms, value_from, next_key, passed}
use Rattle.rl_classes.proofs.StepLaws.{le_from, above_from, le_true, le_false, cases_le, eq_from, other_from, value_from-push, froms-append, front_ascends, back_ascends, join_ascends}

-- no step of the rest stands before the key
abbrev IsNotAbove : ℤ → List ℤ → Type 0
IsNotAbove key [] = Unit {0}
IsNotAbove key (k ∷ ks) = key ≤ℤ k

next_left : (xs ys : List ℤ) (key : ℤ) → next_key xs ys ≡ Some key → IsNotAbove key xs
next_left [] ys key e = tt
next_left (x ∷ xs) [] key e = let h : x ≡ key = grind arith in omega (arith, ints, h)
next_left (x ∷ xs) (y ∷ ys) key e = let h : int_min x y ≡ key = grind arith in omega (arith, ints, h, int_min_is x y)

next_right : (xs ys : List ℤ) (key : ℤ) → next_key xs ys ≡ Some key → IsNotAbove key ys
next_right xs [] key e = tt
next_right [] (y ∷ ys) key e = let h : y ≡ key = grind arith in omega (arith, ints, h)
next_right (x ∷ xs) (y ∷ ys) key e = let h : int_min x y ≡ key = grind arith in omega (arith, ints, h, int_min_is x y)

-- the key is one of the two first ones
abbrev IsFirst : ℤ → List ℤ → Type 0
IsFirst key [] = ⊥
IsFirst key (k ∷ ks) = k ≡ key

next_is : (xs ys : List ℤ) (key : ℤ) → next_key xs ys ≡ Some key → IsFirst key xs ⊎ IsFirst key ys
next_is [] [] key e = absurd cc
next_is (x ∷ xs) [] key e = inl (grind arith)
next_is [] (y ∷ ys) key e = inr (grind arith)
next_is (x ∷ xs) (y ∷ ys) key e = let h : int_min x y ≡ key = grind arith in elim (cases_le x y) [ inl le ↦ inl (omega (arith, ints, h, le, int_min_is x y)) | inr gt ↦ inr (omega (arith, ints, h, gt, int_min_is x y)) ]

abbrev passing : {T : Type 0} → Bool → Step T → List (Step T) → T → T × List (Step T)
passing b s steps before = cond b (s.value, steps) (before, s ∷ steps)

-- from the key on, the steps that are left behind the one there say the same
passed_after : {T : Type 0} → (before : T) (steps : List (Step T)) (k key : ℤ) → IsNotAbove k (froms steps) → k ≤ℤ key → value_from before steps key ≡ value_from (passed steps k before).0 (passed steps k before).1 key
passed_after before [] k key h le = refl
passed_after before (s ∷ steps) k key h le =
    (elim (int_eq s.from k) as (λ b. int_eq s.from k ≡ b → value_from before (s ∷ steps) key ≡ value_from (passing b s steps before).0 (passing b s steps before).1 key) [
      | true ↦ λ e. let same = eq_from s.from k e in let low : int_le s.from key ≡ true = le_true s.from key (omega (arith, ints, same)) in rw low refl
      | false ↦ λ e. refl
    ]) refl

-- before the key they say the same, whatever came before
passed_before : {T : Type 0} → (v before : T) (steps : List (Step T)) (k key : ℤ) → IsNotAbove k (froms steps) → key <ℤ k → value_from v steps key ≡ value_from v (passed steps k before).1 key
passed_before v before [] k key h lt = refl
passed_before v before (s ∷ steps) k key h lt =
    (elim (int_eq s.from k) as (λ b. int_eq s.from k ≡ b → value_from v (s ∷ steps) key ≡ value_from v (passing b s steps before).1 key) [
      | true ↦ λ e. let same = eq_from s.from k e in let high : int_le s.from key ≡ false = le_false s.from key (omega (arith, ints, same)) in rw high refl
      | false ↦ λ e. refl
    ]) refl

passed_joins : {T : Type 0} → (outs : List ℤ) (before : T) (steps : List (Step T)) (k : ℤ) → IsNotAbove k (froms steps) → Ascend (outs ++ froms steps) → Ascend (outs ++ k ∷ []) → Ascend (outs ++ k ∷ froms (passed steps k before).1)
passed_joins outs before [] k h up here = here
passed_joins outs before (s ∷ steps) k h up here =
    (elim (int_eq s.from k) as (λ b. int_eq s.from k ≡ b → Ascend (outs ++ k ∷ froms (passing b s steps before).1)) [
      | true ↦ λ e. subst (λ x. Ascend (outs ++ x ∷ froms steps)) (eq_from s.from k e) up
      | false ↦ λ e. let other = other_from s.from k e in let lt : k <ℤ s.from = grind (arith, ints) in join_ascends outs k (froms (s ∷ steps)) here lt (back_ascends outs (froms (s ∷ steps)) up)
    ]) refl

passed_shorter : {T : Type 0} → (before : T) (steps : List (Step T)) (k : ℤ) → (length (passed steps k before).1 ≤ length steps) × (IsFirst k (froms steps) → length (passed steps k before).1 < length steps)
passed_shorter before [] k = (omega arith, λ h. absurd h)
passed_shorter before (s ∷ steps) k =
    (elim (int_eq s.from k) as (λ b. int_eq s.from k ≡ b → (length (passing b s steps before).1 ≤ length (s ∷ steps)) × (s.from ≡ k → length (passing b s steps before).1 < length (s ∷ steps))) [
      | true ↦ λ e. (omega arith, λ h. omega arith)
      | false ↦ λ e. (omega arith, λ h. absurd (other_from s.from k e h))
    ]) refl

here_ascends : {T : Type 0} → (outs : List ℤ) (steps : List (Step T)) (k : ℤ) → IsFirst k (froms steps) → Ascend (outs ++ froms steps) → Ascend (outs ++ k ∷ [])
here_ascends outs [] k h up = absurd h
here_ascends outs (s ∷ steps) k h up = front_ascends outs k (froms steps) (subst (λ x. Ascend (outs ++ x ∷ froms steps)) h up)

pair_is : {T U : Type 0} → (p : T × U) (x : T) (y : U) → x ≡ p.0 → y ≡ p.1 → p ≡ (x, y)
pair_is p x y e f = ap (λ (z : _). (z, p.1)) (sym e) ∙ ap (λ (z : _). (x, z)) (sym f)

-- how far two functions are made one: what is made, the values that stand, and the steps that are left
module _ {T U : Type 0} (f : T) (left : List (Step T)) (g : U) (right : List (Step U)) where
  pub record Merges (out : List (Step (T × U))) (value : T × U) (lefts : List (Step T)) (rights : List (Step U)) : Type 0 where
    pub left_is : (key : ℤ) → value_from f left key ≡ value_from (value_from (f, g) out key).0 lefts key
    pub right_is : (key : ℤ) → value_from g right key ≡ value_from (value_from (f, g) out key).1 rights key
    pub stands : (key k : ℤ) → next_key (froms lefts) (froms rights) ≡ Some k → k ≤ℤ key → value_from (f, g) out key ≡ value
    pub left_ascends : Ascend (froms out ++ froms lefts)
    pub right_ascends : Ascend (froms out ++ froms rights)
    pub short : length out + length lefts + length rights ≤ length left + length right

  pub merge_begins : Ascend (froms left) → Ascend (froms right) → Merges [] (f, g) left right
  merge_begins up also = record { left_is = λ key. refl; right_is = λ key. refl; stands = λ key k e le. refl; left_ascends = up; right_ascends = also; short = omega arith }

  -- one more step of both
  abbrev joined_step : ℤ → T → U → Step (T × U)
  joined_step k x y = record { from = k; value = (x, y) }

  left_more : (out : List (Step (T × U))) (value : T × U) (lefts : List (Step T)) (rights : List (Step U)) (k : ℤ) (y : U) → Merges out value lefts rights → next_key (froms lefts) (froms rights) ≡ Some k →
      (key : ℤ) → value_from f left key ≡ value_from (value_from (f, g) (out ++ joined_step k (passed lefts k value.0).0 y ∷ []) key).0 (passed lefts k value.0).1 key
  left_more out value lefts rights k y m e key =
      let above = next_left (froms lefts) (froms rights) k e in
      rw (value_from-push (f, g) out (joined_step k (passed lefts k value.0).0 y) key) (elim (cases_le k key) [
        | inl le ↦ rw (le_true k key le) (m.left_is key ∙ ap (λ (v : T × U). value_from v.0 lefts key) (m.stands key k e le) ∙ passed_after value.0 lefts k key above le)
        | inr gt ↦ rw (le_false k key gt) (m.left_is key ∙ passed_before _ value.0 lefts k key above gt)
      ])

  right_more : (out : List (Step (T × U))) (value : T × U) (lefts : List (Step T)) (rights : List (Step U)) (k : ℤ) (x : T) → Merges out value lefts rights → next_key (froms lefts) (froms rights) ≡ Some k →
      (key : ℤ) → value_from g right key ≡ value_from (value_from (f, g) (out ++ joined_step k x (passed rights k value.1).0 ∷ []) key).1 (passed rights k value.1).1 key
  right_more out value lefts rights k x m e key =
      let above = next_right (froms lefts) (froms rights) k e in
      rw (value_from-push (f, g) out (joined_step k x (passed rights k value.1).0) key) (elim (cases_le k key) [
        | inl le ↦ rw (le_true k key le) (m.right_is key ∙ ap (λ (v : T × U). value_from v.1 rights key) (m.stands key k e le) ∙ passed_after value.1 rights k key above le)
        | inr gt ↦ rw (le_false k key gt) (m.right_is key ∙ passed_before _ value.1 rights k key above gt)
      ])

  ends_ascend : (out : List (Step (T × U))) (value : T × U) (lefts : List (Step T)) (rights : List (Step U)) (k : ℤ) → Merges out value lefts rights → next_key (froms lefts) (froms rights) ≡ Some k → Ascend (froms out ++ k ∷ [])
  ends_ascend out value lefts rights k m e = elim (next_is (froms lefts) (froms rights) k e) [
    | inl first ↦ here_ascends (froms out) lefts k first m.left_ascends
    | inr first ↦ here_ascends (froms out) rights k first m.right_ascends
  ]

  cut_ascends : (ks : List ℤ) (k : ℤ) (rest : List ℤ) (out : List (Step (T × U))) (s : Step (T × U)) → s.from ≡ k → ks ≡ froms out → Ascend (ks ++ k ∷ rest) → Ascend (froms (out ++ s ∷ []) ++ rest)
  cut_ascends ks k rest out s from is up = rw (froms-append out (s ∷ []), append_assoc (froms out) (s.from ∷ []) rest, from, ← is) up

  first_left : (ks ls : List ℤ) (k j : ℤ) → Ascend (ks ++ k ∷ ls) → IsFirst j ls → k <ℤ j
  first_left [] [] k j h first = absurd first
  first_left [] (l ∷ ls) k j h first = let lt = h.0 in omega (arith, ints, lt, first)
  first_left (x ∷ ks) ls k j h first = first_left ks ls k j h.1 first

  pub merge_more : (out : List (Step (T × U))) (value : T × U) (lefts : List (Step T)) (rights : List (Step U)) (k : ℤ) → Merges out value lefts rights → next_key (froms lefts) (froms rights) ≡ Some k →
      let x = passed lefts k value.0 in let y = passed rights k value.1 in Merges (out ++ joined_step k x.0 y.0 ∷ []) (x.0, y.0) x.1 y.1 × (length x.1 + length y.1 < length lefts + length rights)
  merge_more out value lefts rights k m e =
      let x = passed lefts k value.0 in let y = passed rights k value.1 in
      let s = joined_step k x.0 y.0 in
      let here = ends_ascend out value lefts rights k m e in
      let lefts_up : Ascend (froms out ++ k ∷ froms x.1) = passed_joins (froms out) value.0 lefts k (next_left (froms lefts) (froms rights) k e) m.left_ascends here in
      let rights_up : Ascend (froms out ++ k ∷ froms y.1) = passed_joins (froms out) value.1 rights k (next_right (froms lefts) (froms rights) k e) m.right_ascends here in
      let fewer_left = passed_shorter value.0 lefts k in
      let fewer_right = passed_shorter value.1 rights k in
      let fewer : length x.1 + length y.1 < length lefts + length rights = elim (next_is (froms lefts) (froms rights) k e) [
        | inl first ↦ omega (arith, fewer_left.1 first, fewer_right.0)
        | inr first ↦ omega (arith, fewer_left.0, fewer_right.1 first)
      ] in (
        record {
          left_is = left_more out value lefts rights k y.0 m e;
          right_is = right_more out value lefts rights k x.0 m e;
          stands = λ key j after le.
              let lt : k <ℤ j = elim (next_is (froms x.1) (froms y.1) j after) [
                | inl first ↦ first_left (froms out) (froms x.1) k j lefts_up first
                | inr first ↦ first_left (froms out) (froms y.1) k j rights_up first
              ] in
              rw (value_from-push (f, g) out s key, le_true k key (omega (arith, ints, lt, le))) refl;
          left_ascends = cut_ascends (froms out) k (froms x.1) out s refl refl lefts_up;
          right_ascends = cut_ascends (froms out) k (froms y.1) out s refl refl rights_up;
          short = let n = m.short in simp length-append (omega (arith, n, fewer));
        },
        fewer,
      )

  -- the same, of what the code has
  pub merge_step : (out more : List (Step (T × U))) (value : T × U) (lefts : List (Step T)) (rights : List (Step U)) (k : ℤ) (x : T) (xs : List (Step T)) (y : U) (ys : List (Step U)) →
      Merges out value lefts rights → Some k ≡ next_key (froms lefts) (froms rights) →
      x ≡ (passed lefts k value.0).0 → xs ≡ (passed lefts k value.0).1 → y ≡ (passed rights k value.1).0 → ys ≡ (passed rights k value.1).1 → more ≡ out ++ joined_step k x y ∷ [] →
      Merges more (x, y) xs ys
  merge_step out more value lefts rights k x xs y ys m e x_is xs_is y_is ys_is more_is = rw (more_is, x_is, xs_is, y_is, ys_is) (merge_more out value lefts rights k m (sym e)).0

  -- where no step is left, both are made one
  pub merge_ends : (out : List (Step (T × U))) (value : T × U) (lefts : List (Step T)) (rights : List (Step U)) → Merges out value lefts rights → None ≡ next_key (froms lefts) (froms rights) →
      ((key : ℤ) → value_from (f, g) out key ≡ (value_from f left key, value_from g right key)) × Ascend (froms out) × (length out ≤ length left + length right)
  merge_ends out value [] [] m e = (λ key. pair_is _ _ _ (m.left_is key) (m.right_is key), subst Ascend (append-nil (froms out)) m.left_ascends, let n = m.short in omega (arith, n))
  merge_ends out value (s ∷ lefts) [] m e = absurd cc
  merge_ends out value [] (s ∷ rights) m e = absurd cc
  merge_ends out value (s ∷ lefts) (t ∷ rights) m e = absurd cc
