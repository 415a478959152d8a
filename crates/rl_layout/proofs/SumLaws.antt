-- Sums of widths are where lists begin.
use Rattle.std.proofs.Common.{◌≡◌, ℕ, zero, suc, ◌+◌, ◌-◌, ◌<◌, ◌≤◌, ℤ, pos, ◌<ℤ◌, ◌≤ℤ◌, List, [], ◌∷◌, length, Option, Some, refl, sym, ap, ◌∙◌, subst, arith, length-append, IsSomeAnd}
use Rattle.std.specs.Prelude.{slice_get}
use Rattle.std.specs.List.{flat_map}
use Rattle.std.proofs.lemmas.Int.{ints}
use Rattle.rl_arrays.specs.Words.{plus, sum_before}
use Rattle.rl_arrays.specs.Sizes.{IsIn}
use Rattle.rl_layout.proofs.Segments.{begins}

begins_zero : {X Y : Type 0} → (f : X → List Y) (xs : List X) → begins f xs 0 ≡ 0
begins_zero f [] = refl
begins_zero f (x ∷ xs) = refl

pub begins_next : {X Y : Type 0} → (f : X → List Y) (xs : List X) (i : ℕ) (x : X) → slice_get xs i ≡ Some x → begins f xs (suc i) ≡ begins f xs i + length (f x)
begins_next f [] i x e = absurd cc
begins_next f (y ∷ xs) zero x e = let same : y ≡ x = cc in let z = begins_zero f xs in let n = ap (λ w. length (f w)) same in omega (arith, z, n)
begins_next f (y ∷ xs) (suc i) x e = let rest = begins_next f xs i x e in omega (arith, rest)

pub begins_all : {X Y : Type 0} → (f : X → List Y) (xs : List X) → begins f xs (length xs) ≡ length (flat_map f xs)
begins_all f [] = refl
begins_all f (x ∷ xs) = let rest = begins_all f xs in let n = length-append (f x) (flat_map f xs) in omega (arith, rest, n)

pub element : {X : Type 0} → (xs : List X) (i : ℕ) → i < length xs → (x : X) × (slice_get xs i ≡ Some x)
element [] i l = absurd (omega arith)
element (x ∷ xs) zero l = (x, refl)
element (x ∷ xs) (suc i) l = element xs i (omega arith)

-- widths that are the lengths of lists
abbrev pub AreLengths : {X Y : Type 0} → (ℕ → Option ℤ) → (X → List Y) → List X → Type 0
AreLengths {X} width f xs = (i : ℕ) (x : X) → slice_get xs i ≡ Some x → width i ≡ Some (pos (length (f x)))

pub sum_is : {X Y : Type 0} → (width : ℕ → Option ℤ) (f : X → List Y) (xs : List X) → AreLengths width f xs → (i : ℕ) → i ≤ length xs → sum_before width i ≡ Some (pos (begins f xs i))
unfolding sum_before
sum_is width f xs w zero l = ap (λ n. Some (pos n)) (sym (begins_zero f xs))
sum_is width f xs w (suc i) l =
    let x = element xs i (omega arith) in
    (λ j. plus (sum_is width f xs w i (omega arith) j) (w i x.0 x.1 j)) ∙ ap (λ n. Some (pos n)) (sym (begins_next f xs i x.0 x.1))

-- a place among things that take places one after another
pub record PlaceOf {X Y : Type 0} (f : X → List Y) (xs : List X) (i place : ℕ) : Type 0 where
  pub thing : X
  pub there : slice_get xs i ≡ Some thing
  pub inner : ℕ
  pub within : inner < length (f thing)
  pub place_is : place ≡ begins f xs i + inner

pub place_of : {X Y : Type 0} → (width : ℕ → Option ℤ) (f : X → List Y) (xs : List X) → AreLengths width f xs → (i place : ℕ) → i < length xs → IsIn width i place → PlaceOf f xs i place
place_of width f xs w i place l at =
    let x = element xs i l in
    let low : pos (begins f xs i) ≤ℤ pos place = first (sum_before width i) (sum_is width f xs w i (omega arith)) at.from in
    let high : pos place <ℤ pos (begins f xs (i + 1)) = next (sum_before width (i + 1)) (sum_is width f xs w (i + 1) (omega arith)) at.to in
    let more : begins f xs (i + 1) ≡ begins f xs i + length (f x.0) = ap (begins f xs) (omega arith) ∙ begins_next f xs i x.0 x.1 in
    let a : begins f xs i ≤ place = omega (arith, ints, low) in
    let b : place < begins f xs (i + 1) = omega (arith, ints, high) in
    record { thing = x.0; there = x.1; inner = place - begins f xs i; within = omega (arith, a, b, more); place_is = omega (arith, a) }
  where
    first : (o : Option ℤ) → o ≡ Some (pos (begins f xs i)) → IsSomeAnd o (λ z. z ≤ℤ pos place) → pos (begins f xs i) ≤ℤ pos place
    first o e h = subst (λ o. IsSomeAnd o (λ z. z ≤ℤ pos place)) e h

    next : (o : Option ℤ) → o ≡ Some (pos (begins f xs (i + 1))) → IsSomeAnd o (λ z. pos place <ℤ z) → pos place <ℤ pos (begins f xs (i + 1))
    next o e h = subst (λ o. IsSomeAnd o (λ z. pos place <ℤ z)) e h
