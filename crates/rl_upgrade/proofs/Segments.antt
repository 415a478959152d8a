-- Lists one behind another, where each begins, and sums of their lengths.
use Rattle.std.proofs.Common.{◌≡◌, ℕ, zero, suc, ◌+◌, ◌-◌, ◌<◌, ◌≤◌, ℤ, pos, ◌<ℤ◌, ◌≤ℤ◌, List, [], ◌∷◌, ◌++◌, length, map, Option, Some, refl, sym, ap, ◌∙◌, subst, arith, length-append, IsSomeAnd, inl, inr, ◌⊎◌}
use Rattle.std.specs.Prelude.{slice_get}
use Rattle.std.specs.List.{flat_map}
use Rattle.std.proofs.lemmas.List.{map-append}
use Rattle.std.proofs.lemmas.Int.{ints}
use Rattle.rl_arrays.specs.Words.{plus, sum_before}
use Rattle.rl_arrays.specs.Sizes.{IsIn}
use Rattle.rl_upgrade.proofs.ListLaws.{front_get, behind_get}

element : {X : Type 0} (xs : List X) (i : ℕ) → i < length xs → (x : X) × (slice_get xs i ≡ Some x)
element [] i l = absurd (omega arith)
element (x ∷ xs) zero l = (x, refl)
element (x ∷ xs) (suc i) l = element xs i (omega arith)

-- where the i-th of several lists begins
abbrev pub begins : {X Y : Type 0} → (X → List Y) → List X → ℕ → ℕ
begins f [] i = 0
begins f (x ∷ xs) zero = 0
begins f (x ∷ xs) (suc i) = length (f x) + begins f xs i

-- the j-th element of the i-th list
pub in_segment : {X Y : Type 0} → (f : X → List Y) (xs : List X) (i j : ℕ) (x : X) (y : Y) → slice_get xs i ≡ Some x → slice_get (f x) j ≡ Some y → slice_get (flat_map f xs) (begins f xs i + j) ≡ Some y
in_segment f [] i j x y e h = absurd cc
in_segment f (z ∷ xs) zero j x y e h = let same : z ≡ x = cc in let none : 0 + j ≡ j = omega arith in
    ap (slice_get (f z ++ flat_map f xs)) none ∙ front_get (f z) (flat_map f xs) j y (subst (λ w. slice_get (f w) j ≡ Some y) (sym same) h)
in_segment f (z ∷ xs) (suc i) j x y e h =
    let next : (length (f z) + begins f xs i) + j ≡ length (f z) + (begins f xs i + j) = omega arith in
    ap (slice_get (f z ++ flat_map f xs)) next ∙ behind_get (f z) (flat_map f xs) (begins f xs i + j) ∙ in_segment f xs i j x y e h

pub map_flat_map : {X Y Z : Type 0} → (g : Y → Z) (f : X → List Y) (xs : List X) → map g (flat_map f xs) ≡ flat_map (λ x. map g (f x)) xs
map_flat_map g f [] = refl
map_flat_map g f (x ∷ xs) = map-append g (f x) (flat_map f xs) ∙ ap (λ w. map g (f x) ++ w) (map_flat_map g f xs)

-- ---- sums

begins_zero : {X Y : Type 0} → (f : X → List Y) (xs : List X) → begins f xs 0 ≡ 0
begins_zero f [] = refl
begins_zero f (x ∷ xs) = refl

pub begins_next : {X Y : Type 0} → (f : X → List Y) (xs : List X) (i : ℕ) (x : X) → slice_get xs i ≡ Some x → begins f xs (suc i) ≡ begins f xs i + length (f x)
begins_next f [] i x e = absurd cc
begins_next f (y ∷ xs) zero x e = let same : y ≡ x = cc in let z = begins_zero f xs in let n = ap (λ w. length (f w)) same in omega (arith, z, n)
begins_next f (y ∷ xs) (suc i) x e = let rest = begins_next f xs i x e in omega (arith, rest)

pub begins_all : {X Y : Type 0} → (f : X → List Y) (xs : List X) → begins f xs (length xs) ≡ length (flat_map f xs)
begins_all f [] = refl
begins_all f (x ∷ xs) = let rest = begins_all f xs in let n = length-append (f x) (flat_map f xs) in omega (arith, rest, n)

-- widths that are the lengths of lists
abbrev pub AreLengths : {X Y : Type 0} → (ℕ → Option ℤ) → (X → List Y) → List X → Type 0
AreLengths {X} width f xs = (i : ℕ) (x : X) → slice_get xs i ≡ Some x → width i ≡ Some (pos (length (f x)))

pub sum_is : {X Y : Type 0} → (width : ℕ → Option ℤ) (f : X → List Y) (xs : List X) → AreLengths width f xs → (i : ℕ) → i ≤ length xs → sum_before width i ≡ Some (pos (begins f xs i))
unfolding sum_before
sum_is width f xs w zero l = ap (λ n. Some (pos n)) (sym (begins_zero f xs))
sum_is width f xs w (suc i) l =
    let x = element xs i (omega arith) in
    (λ j. plus (sum_is width f xs w i (omega arith) j) (w i x.0 x.1 j)) ∙ ap (λ n. Some (pos n)) (sym (begins_next f xs i x.0 x.1))

-- a place among things that take places one after another
pub record PlaceOf {X Y : Type 0} (f : X → List Y) (xs : List X) (i place : ℕ) : Type 0 where
  pub thing : X
  pub there : slice_get xs i ≡ Some thing
  pub inner : ℕ
  pub within : inner < length (f thing)
  pub place_is : place ≡ begins f xs i + inner

pub place_of : {X Y : Type 0} → (width : ℕ → Option ℤ) (f : X → List Y) (xs : List X) → AreLengths width f xs → (i place : ℕ) → i < length xs → IsIn width i place → PlaceOf f xs i place
place_of width f xs w i place l at =
    let x = element xs i l in
    let low : pos (begins f xs i) ≤ℤ pos place = first (sum_before width i) (sum_is width f xs w i (omega arith)) at.from in
    let high : pos place <ℤ pos (begins f xs (i + 1)) = next (sum_before width (i + 1)) (sum_is width f xs w (i + 1) (omega arith)) at.to in
    let more : begins f xs (i + 1) ≡ begins f xs i + length (f x.0) = ap (begins f xs) (omega arith) ∙ begins_next f xs i x.0 x.1 in
    let a : begins f xs i ≤ place = omega (arith, ints, low) in
    let b : place < begins f xs (i + 1) = omega (arith, ints, high) in
    record { thing = x.0; there = x.1; inner = place - begins f xs i; within = omega (arith, a, b, more); place_is = omega (arith, a) }
  where
    first : (o : Option ℤ) → o ≡ Some (pos (begins f xs i)) → IsSomeAnd o (λ z. z ≤ℤ pos place) → pos (begins f xs i) ≤ℤ pos place
    first o e h = subst (λ o. IsSomeAnd o (λ z. z ≤ℤ pos place)) e h

    next : (o : Option ℤ) → o ≡ Some (pos (begins f xs (i + 1))) → IsSomeAnd o (λ z. pos place <ℤ z) → pos place <ℤ pos (begins f xs (i + 1))
    next o e h = subst (λ o. IsSomeAnd o (λ z. pos place <ℤ z)) e h

-- ---- elements of lists one behind another

-- an element of the first list, or of the second
pub either_get : {X : Type 0} → (xs ys : List X) (k : ℕ) (y : X) → slice_get (xs ++ ys) k ≡ Some y → (slice_get xs k ≡ Some y) ⊎ ((j : ℕ) × (k ≡ length xs + j) × (slice_get ys j ≡ Some y))
either_get [] ys k y e = inr (k, omega arith, e)
either_get (x ∷ xs) ys zero y e = inl e
either_get (x ∷ xs) ys (suc k) y e = by (either_get xs ys k y e)
  where
    by : (slice_get xs k ≡ Some y) ⊎ ((j : ℕ) × (k ≡ length xs + j) × (slice_get ys j ≡ Some y)) → (slice_get xs k ≡ Some y) ⊎ ((j : ℕ) × (suc k ≡ suc (length xs) + j) × (slice_get ys j ≡ Some y))
    by (inl h) = inl h
    by (inr h) = let n = h.1 in inr (h.0, omega (arith, n), h.2)

-- the list that an element stands in, and its place there
pub record StandsIn {X Y : Type 0} (f : X → List Y) (xs : List X) (k : ℕ) (y : Y) : Type 0 where
  pub outer : ℕ
  pub thing : X
  pub there : slice_get xs outer ≡ Some thing
  pub inner : ℕ
  pub has : slice_get (f thing) inner ≡ Some y
  pub place_is : k ≡ begins f xs outer + inner

pub stands_in : {X Y : Type 0} → (f : X → List Y) (xs : List X) (k : ℕ) (y : Y) → slice_get (flat_map f xs) k ≡ Some y → StandsIn f xs k y
stands_in f [] k y e = absurd cc
stands_in {Y = Y} f (x ∷ xs) k y e = by (either_get (f x) (flat_map f xs) k y e) (stands_in f xs)
  where
    by : (slice_get (f x) k ≡ Some y) ⊎ ((j : ℕ) × (k ≡ length (f x) + j) × (slice_get (flat_map f xs) j ≡ Some y)) → ((k : ℕ) (y : Y) → slice_get (flat_map f xs) k ≡ Some y → StandsIn f xs k y) → StandsIn f (x ∷ xs) k y
    by (inl h) rest = record { outer = 0; thing = x; there = refl; inner = k; has = h; place_is = omega arith }
    by (inr h) rest = let s = rest h.0 y h.2 in let a = s.place_is in let b = h.1 in record { outer = suc s.outer; thing = s.thing; there = s.there; inner = s.inner; has = s.has; place_is = omega (arith, a, b) }
