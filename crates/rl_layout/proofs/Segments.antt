-- Lists one behind another, and where each begins.
use Rattle.std.proofs.Common.{◌≡◌, ℕ, zero, suc, ◌+◌, List, [], ◌∷◌, ◌++◌, length, map, take, drop, Some, pos, refl, sym, ap, ◌∙◌, subst, arith, append_assoc}
use Rattle.std.specs.Prelude.{slice_get}
use Rattle.std.specs.List.{flat_map}
use Rattle.std.proofs.Math.Seq.{take-append_seam, drop-append_seam}
use Rattle.std.proofs.lemmas.List.{length-map, drop-drop, map-append}
use Rattle.std.proofs.lemmas.List.Concat.{flat_map-append}
use Rattle.rl_layout.specs.Cells.{offsets}
use Rattle.rl_layout.proofs.ListLaws.{front_get, behind_get}

-- where the i-th of several lists begins
abbrev pub begins : {X Y : Type 0} → (X → List Y) → List X → ℕ → ℕ
begins f [] i = 0
begins f (x ∷ xs) zero = 0
begins f (x ∷ xs) (suc i) = length (f x) + begins f xs i

-- what stands behind it
abbrev pub behind_of : {X Y : Type 0} → (X → List Y) → List X → List Y → ℕ → List Y
behind_of f [] tail i = tail
behind_of f (x ∷ xs) tail zero = flat_map f xs ++ tail
behind_of f (x ∷ xs) tail (suc i) = behind_of f xs tail i

drop_more : {X : Type 0} → (xs ys : List X) (n : ℕ) → drop (length xs + n) (xs ++ ys) ≡ drop n ys
drop_more [] ys n = let none : 0 + n ≡ n = omega arith in ap (λ k. drop k ys) none
drop_more (x ∷ xs) ys n = let next : suc (length xs) + n ≡ suc (length xs + n) = omega arith in ap (λ k. drop k (x ∷ (xs ++ ys))) next ∙ drop_more xs ys n

-- from there on stand that list, and what is behind it
pub segment : {X Y : Type 0} → (f : X → List Y) (xs : List X) (tail : List Y) (i : ℕ) (x : X) → slice_get xs i ≡ Some x → drop (begins f xs i) (flat_map f xs ++ tail) ≡ f x ++ behind_of f xs tail i
segment f [] tail i x e = absurd cc
segment f (y ∷ xs) tail zero x e = let same : y ≡ x = cc in append_assoc (f y) (flat_map f xs) tail ∙ ap (λ z. f z ++ (flat_map f xs ++ tail)) same
segment f (y ∷ xs) tail (suc i) x e = ap (drop (length (f y) + begins f xs i)) (append_assoc (f y) (flat_map f xs) tail) ∙ drop_more (f y) (flat_map f xs ++ tail) (begins f xs i) ∙ segment f xs tail i x e

-- the j-th element of the i-th list
pub in_segment : {X Y : Type 0} → (f : X → List Y) (xs : List X) (i j : ℕ) (x : X) (y : Y) → slice_get xs i ≡ Some x → slice_get (f x) j ≡ Some y → slice_get (flat_map f xs) (begins f xs i + j) ≡ Some y
in_segment f [] i j x y e h = absurd cc
in_segment f (z ∷ xs) zero j x y e h = let same : z ≡ x = cc in let none : 0 + j ≡ j = omega arith in
    ap (slice_get (f z ++ flat_map f xs)) none ∙ front_get (f z) (flat_map f xs) j y (subst (λ w. slice_get (f w) j ≡ Some y) (sym same) h)
in_segment f (z ∷ xs) (suc i) j x y e h =
    let next : (length (f z) + begins f xs i) + j ≡ length (f z) + (begins f xs i + j) = omega arith in
    ap (slice_get (f z ++ flat_map f xs)) next ∙ behind_get (f z) (flat_map f xs) (begins f xs i + j) ∙ in_segment f xs i j x y e h

-- its two parts
pub front_part : {Y : Type 0} → (q p more rest : List Y) → rest ≡ (q ++ p) ++ more → take (length q) rest ≡ q
front_part q p more rest e = ap (take (length q)) (e ∙ append_assoc q p more) ∙ take-append_seam q (p ++ more)

pub back_part : {Y : Type 0} → (q p more ys : List Y) (b : ℕ) → drop b ys ≡ (q ++ p) ++ more → take (length p) (drop (b + length q) ys) ≡ p
back_part q p more ys b e = ap (take (length p)) (sym (drop-drop (length q) b ys) ∙ ap (drop (length q)) (e ∙ append_assoc q p more) ∙ drop-append_seam q (p ++ more)) ∙ take-append_seam p more

-- its offset says where it begins
pub offset_at : {X Y : Type 0} → (f : X → List Y) (xs : List X) (p i : ℕ) (x : X) → slice_get xs i ≡ Some x → slice_get (offsets p (map (λ z. length (f z)) xs)) i ≡ Some (pos (p + begins f xs i))
offset_at f [] p i x e = absurd cc
offset_at f (y ∷ xs) p zero x e = let same : p ≡ p + 0 = omega arith in ap (λ (n : ℕ). Some (pos n)) same
offset_at f (y ∷ xs) p (suc i) x e =
    let same : (p + length (f y)) + begins f xs i ≡ p + (length (f y) + begins f xs i) = omega arith in
    offset_at f xs (p + length (f y)) i x e ∙ ap (λ (n : ℕ). Some (pos n)) same

-- lists of as many elements begin where they do
pub begins_map : {X Y Z : Type 0} → (h : Y → Z) (f : X → List Y) (xs : List X) (i : ℕ) → begins (λ x. map h (f x)) xs i ≡ begins f xs i
begins_map h f [] i = refl
begins_map h f (x ∷ xs) zero = refl
begins_map h f (x ∷ xs) (suc i) = λ j. length-map (f x) h j + begins_map h f xs i j

-- ---- maps of such lists

pub map_map : {X Y Z : Type 0} → (g : Y → Z) (f : X → Y) (xs : List X) → map g (map f xs) ≡ map (λ x. g (f x)) xs
map_map g f [] = refl
map_map g f (x ∷ xs) = ap (λ w. g (f x) ∷ w) (map_map g f xs)

pub flat_map_map : {X Y Z : Type 0} → (g : Y → List Z) (f : X → Y) (xs : List X) → flat_map g (map f xs) ≡ flat_map (λ x. g (f x)) xs
flat_map_map g f [] = refl
flat_map_map g f (x ∷ xs) = ap (λ w. g (f x) ++ w) (flat_map_map g f xs)

pub map_flat_map : {X Y Z : Type 0} → (g : Y → Z) (f : X → List Y) (xs : List X) → map g (flat_map f xs) ≡ flat_map (λ x. map g (f x)) xs
map_flat_map g f [] = refl
map_flat_map g f (x ∷ xs) = map-append g (f x) (flat_map f xs) ∙ ap (λ w. map g (f x) ++ w) (map_flat_map g f xs)

pub flat_map_flat_map : {X Y Z : Type 0} → (g : Y → List Z) (f : X → List Y) (xs : List X) → flat_map g (flat_map f xs) ≡ flat_map (λ x. flat_map g (f x)) xs
flat_map_flat_map g f [] = refl
flat_map_flat_map g f (x ∷ xs) = flat_map-append g (f x) (flat_map f xs) ∙ ap (λ w. flat_map g (f x) ++ w) (flat_map_flat_map g f xs)
