-- What holds of each element of a list.
use Rattle.std.proofs.Common.{◌≡◌, ℕ, zero, suc, List, [], ◌∷◌, ◌++◌, map, Some, refl, subst}
use Rattle.std.specs.Prelude.{slice_get, All}
use Rattle.std.specs.List.{AllByRecursion, flat_map}
use Rattle.std.proofs.lemmas.List.Elements.{All-from_recursion, recursion_from_All}

abbrev pub Each : {X : Type 0} → (X → Type 0) → List X → Type 0
Each P xs = AllByRecursion P xs

pub each_append : {X : Type 0} → (P : X → Type 0) (xs ys : List X) → Each P xs → Each P ys → Each P (xs ++ ys)
each_append P [] ys a b = b
each_append P (x ∷ xs) ys a b = (a.0, each_append P xs ys a.1 b)

pub each_front : {X : Type 0} → (P : X → Type 0) (xs ys : List X) → Each P (xs ++ ys) → Each P xs
each_front P [] ys a = tt
each_front P (x ∷ xs) ys a = (a.0, each_front P xs ys a.1)

pub each_behind : {X : Type 0} → (P : X → Type 0) (xs ys : List X) → Each P (xs ++ ys) → Each P ys
each_behind P [] ys a = a
each_behind P (x ∷ xs) ys a = each_behind P xs ys a.1

pub each_more : {X : Type 0} → (P Q : X → Type 0) (xs : List X) → ((x : X) → P x → Q x) → Each P xs → Each Q xs
each_more P Q [] f a = tt
each_more P Q (x ∷ xs) f a = (f x a.0, each_more P Q xs f a.1)

pub each_map : {X Y : Type 0} → (P : Y → Type 0) (f : X → Y) (xs : List X) → Each (λ x. P (f x)) xs → Each P (map f xs)
each_map P f [] a = tt
each_map P f (x ∷ xs) a = (a.0, each_map P f xs a.1)

pub each_mapped : {X Y : Type 0} → (P : Y → Type 0) (f : X → Y) (xs : List X) → Each P (map f xs) → Each (λ x. P (f x)) xs
each_mapped P f [] a = tt
each_mapped P f (x ∷ xs) a = (a.0, each_mapped P f xs a.1)

pub each_flat : {X Y : Type 0} → (P : Y → Type 0) (f : X → List Y) (xs : List X) → Each (λ x. Each P (f x)) xs → Each P (flat_map f xs)
each_flat P f [] a = tt
each_flat P f (x ∷ xs) a = each_append P (f x) (flat_map f xs) a.0 (each_flat P f xs a.1)

pub each_of_flat : {X Y : Type 0} → (P : Y → Type 0) (f : X → List Y) (xs : List X) → Each P (flat_map f xs) → Each (λ x. Each P (f x)) xs
each_of_flat P f [] a = tt
each_of_flat P f (x ∷ xs) a = (each_front P (f x) (flat_map f xs) a, each_of_flat P f xs (each_behind P (f x) (flat_map f xs) a))

-- of all that stand in the lists of lists
pub each_flat_flat : {X Y Z : Type 0} → (P : Z → Type 0) (g : Y → List Z) (f : X → List Y) (xs : List X) → Each (λ x. Each (λ y. Each P (g y)) (f x)) xs → Each P (flat_map g (flat_map f xs))
each_flat_flat P g f xs a = each_flat P g (flat_map f xs) (each_flat (λ y. Each P (g y)) f xs a)

pub each_of_flat_flat : {X Y Z : Type 0} → (P : Z → Type 0) (g : Y → List Z) (f : X → List Y) (xs : List X) → Each P (flat_map g (flat_map f xs)) → Each (λ x. Each (λ y. Each P (g y)) (f x)) xs
each_of_flat_flat P g f xs a = each_of_flat (λ y. Each P (g y)) f xs (each_of_flat P g (flat_map f xs) a)

-- ---- by places

pub each_at : {X : Type 0} → (P : X → Type 0) (xs : List X) (i : ℕ) (x : X) → slice_get xs i ≡ Some x → Each P xs → P x
each_at P [] i x e a = absurd cc
each_at P (y ∷ xs) zero x e a = let same : y ≡ x = cc in subst P same a.0
each_at P (y ∷ xs) (suc i) x e a = each_at P xs i x e a.1

pub each_from : {X : Type 0} → (P : X → Type 0) (xs : List X) → ((i : ℕ) (x : X) → slice_get xs i ≡ Some x → P x) → Each P xs
each_from P [] f = tt
each_from P (x ∷ xs) f = (f 0 x refl, each_from P xs (λ i y e. f (suc i) y e))

-- ---- between the two ways to say it

pub all : {X : Type 0} → (P : X → Type 0) (xs : List X) → Each P xs → All P xs
all P xs a = All-from_recursion P xs a

pub each : {X : Type 0} → (P : X → Type 0) (xs : List X) → All P xs → Each P xs
each P xs a = recursion_from_All P xs a
