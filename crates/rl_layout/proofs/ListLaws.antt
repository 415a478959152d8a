-- Laws of lists: what holds of each element, and elements by their places.
use Rattle.std.proofs.Common.{◌≡◌, ℕ, zero, suc, ◌+◌, ◌<◌, Bool, true, false, true≢false, cond, not, List, [], ◌∷◌, ◌++◌, length, map, Option, Some, None, refl, sym, ap, ◌∙◌, subst, arith, add-one}
use Rattle.std.specs.Prelude.{slice_get, position, nat_lt}
use Rattle.std.specs.List.{AllByRecursion, filter, find, flat_map, position_or_len, range_with_len}
use Rattle.std.specs.Option.{option_map}
use Rattle.std.proofs.lemmas.Bool.Decides.{nat_tests}

-- ---- what holds of each

pub all_append : {X : Type 0} → (P : X → Type 0) (xs ys : List X) → AllByRecursion P xs → AllByRecursion P ys → AllByRecursion P (xs ++ ys)
all_append P [] ys a b = b
all_append P (x ∷ xs) ys a b = (a.0, all_append P xs ys a.1 b)

pub all_parts : {X : Type 0} → (P : X → Type 0) (xs ys : List X) → AllByRecursion P (xs ++ ys) → AllByRecursion P xs × AllByRecursion P ys
all_parts P [] ys a = (tt, a)
all_parts P (x ∷ xs) ys a = let p = all_parts P xs ys a.1 in ((a.0, p.0), p.1)

pub all_at : {X : Type 0} → (P : X → Type 0) (xs : List X) (i : ℕ) (x : X) → AllByRecursion P xs → slice_get xs i ≡ Some x → P x
all_at P [] i x a e = absurd cc
all_at P (y ∷ xs) zero x a e = let same : y ≡ x = cc in subst P same a.0
all_at P (y ∷ xs) (suc i) x a e = all_at P xs i x a.1 e

pub all_from : {X : Type 0} → (P : X → Type 0) (xs : List X) → ((i : ℕ) (x : X) → slice_get xs i ≡ Some x → P x) → AllByRecursion P xs
all_from P [] f = tt
all_from P (x ∷ xs) f = (f 0 x refl, all_from P xs (λ i y e. f (suc i) y e))

pub all_map : {X Y : Type 0} → (P : Y → Type 0) (f : X → Y) (xs : List X) → AllByRecursion (λ x. P (f x)) xs → AllByRecursion P (map f xs)
all_map P f [] a = tt
all_map P f (x ∷ xs) a = (a.0, all_map P f xs a.1)

pub all_more : {X : Type 0} → (P Q : X → Type 0) (xs : List X) → ((x : X) → P x → Q x) → AllByRecursion P xs → AllByRecursion Q xs
all_more P Q [] f a = tt
all_more P Q (x ∷ xs) f a = (f x a.0, all_more P Q xs f a.1)

pub all_flat_map : {X Y : Type 0} → (P : Y → Type 0) (f : X → List Y) (xs : List X) → AllByRecursion (λ x. AllByRecursion P (f x)) xs → AllByRecursion P (flat_map f xs)
all_flat_map P f [] a = tt
all_flat_map P f (x ∷ xs) a = all_append P (f x) (flat_map f xs) a.0 (all_flat_map P f xs a.1)

pub found_all : {X : Type 0} → (P : X → Type 0) (p : X → Bool) (xs : List X) (x : X) → AllByRecursion P xs → find p xs ≡ Some x → P x
found_all P p [] x a e = absurd cc
found_all P p (y ∷ xs) x a e = by (p y) e (found_all P p xs x a.1)
  where
    by : (b : Bool) → cond b (Some y) (find p xs) ≡ Some x → (find p xs ≡ Some x → P x) → P x
    by true e f = let same : y ≡ x = cc in subst P same a.0
    by false e f = f e

pub all_mapped : {X Y : Type 0} → (P : Y → Type 0) (f : X → Y) (xs : List X) → AllByRecursion P (map f xs) → AllByRecursion (λ x. P (f x)) xs
all_mapped P f [] a = tt
all_mapped P f (x ∷ xs) a = (a.0, all_mapped P f xs a.1)

-- ---- lists that are filtered

kept : {X : Type 0} → (p : X → Bool) (P : X → Type 0) (x : X) (xs : List X) (b : Bool) → p x ≡ b → AllByRecursion P (cond b (x ∷ filter p xs) (filter p xs)) → (AllByRecursion P (filter p xs) → AllByRecursion (λ y. p y ≡ true → P y) xs) → AllByRecursion (λ y. p y ≡ true → P y) (x ∷ xs)
kept p P x xs true e a rest = (λ _. a.0, rest a.1)
kept p P x xs false e a rest = (λ q. absurd (true≢false (sym q ∙ e)), rest a)

pub of_filter : {X : Type 0} → (p : X → Bool) (P : X → Type 0) (xs : List X) → AllByRecursion P (filter p xs) → AllByRecursion (λ x. p x ≡ true → P x) xs
of_filter p P [] a = tt
of_filter p P (x ∷ xs) a = kept p P x xs (p x) refl a (of_filter p P xs)

pub chosen : {X : Type 0} → (p : X → Bool) (P : X → Type 0) (x : X) (xs : List X) (b : Bool) → p x ≡ b → (p x ≡ true → P x) → AllByRecursion P (filter p xs) → AllByRecursion P (cond b (x ∷ filter p xs) (filter p xs))
chosen p P x xs true e a rest = (a e, rest)
chosen p P x xs false e a rest = rest

pub to_filter : {X : Type 0} → (p : X → Bool) (P : X → Type 0) (xs : List X) → AllByRecursion (λ x. p x ≡ true → P x) xs → AllByRecursion P (filter p xs)
to_filter p P [] a = tt
to_filter p P (x ∷ xs) a = chosen p P x xs (p x) refl a.0 (to_filter p P xs a.1)

-- ---- elements

pub front_get : {X : Type 0} (xs ys : List X) (i : ℕ) (x : X) → slice_get xs i ≡ Some x → slice_get (xs ++ ys) i ≡ Some x
front_get [] ys i x e = absurd cc
front_get (y ∷ xs) ys zero x e = e
front_get (y ∷ xs) ys (suc i) x e = front_get xs ys i x e

pub behind_get : {X : Type 0} (xs ys : List X) (i : ℕ) → slice_get (xs ++ ys) (length xs + i) ≡ slice_get ys i
behind_get [] ys i = let none : 0 + i ≡ i = omega arith in ap (slice_get ys) none
behind_get (x ∷ xs) ys i = let next : suc (length xs) + i ≡ suc (length xs + i) = omega arith in ap (slice_get (x ∷ (xs ++ ys))) next ∙ behind_get xs ys i

pub next_get : {X : Type 0} (x : X) (xs : List X) (i : ℕ) → slice_get (x ∷ xs) (i + 1) ≡ slice_get xs i
next_get x xs i = ap (slice_get (x ∷ xs)) (add-one i)

pub made_get : {X : Type 0} → (f : ℕ → X) (a n j : ℕ) → j < n → slice_get (map f (range_with_len a n)) j ≡ Some (f (a + j))
made_get f a zero j l = absurd (omega arith)
made_get f a (suc n) zero l = let same : a ≡ a + 0 = omega arith in ap (λ k. Some (f k)) same
made_get f a (suc n) (suc j) l = let less : j < n = omega arith in let same : (a + 1) + j ≡ a + suc j = omega arith in made_get f (a + 1) n j less ∙ ap (λ k. Some (f k)) same

-- ---- positions

pub position-cons : {X : Type 0} → (p : X → Bool) (x : X) (xs : List X) → position p (x ∷ xs) ≡ cond (p x) (Some 0) (option_map (λ i. i + 1) (position p xs))
position-cons p x xs = by (p x)
  where
    n : ℕ
    n = position_or_len p xs

    told : (b : Bool) → cond {A = Option ℕ} b (Some (1 + n)) None ≡ option_map (λ i. i + 1) (cond b (Some n) None)
    told true = let same : 1 + n ≡ n + 1 = omega arith in ap (λ k. Some k) same
    told false = refl

    by : (b : Bool) → cond {A = Option ℕ} (nat_lt (cond (not b) (1 + n) 0) (length (x ∷ xs))) (Some (cond (not b) (1 + n) 0)) None ≡ cond b (Some 0) (option_map (λ i. i + 1) (position p xs))
    by true = let less : nat_lt 0 (length (x ∷ xs)) ≡ true = grind (arith, nat_tests) in λ i. cond (less i) (Some 0) None
    by false = let same : nat_lt (1 + n) (length (x ∷ xs)) ≡ nat_lt n (length xs) = grind (arith, nat_tests) in (λ i. cond (same i) (Some (1 + n)) None) ∙ told (nat_lt n (length xs))
