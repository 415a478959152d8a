-- Laws of lists: what holds of each element, and elements by their places.
use Rattle.std.proofs.Common.{◌≡◌, ℕ, zero, suc, ◌+◌, ◌<◌, Bool, true, false, true≢false, cond, ◌||◌, not, List, [], ◌∷◌, ◌++◌, length, map, Option, Some, None, refl, sym, ap, ◌∙◌, subst, arith, add-one, append_assoc}
use Rattle.std.specs.Prelude.{slice_get, position, nat_lt}
use Rattle.std.specs.List.{AllByRecursion, list_any, position_or_len, range_with_len}
use Rattle.std.specs.Option.{option_map}
use Rattle.std.proofs.lemmas.Bool.{or_left, or_right}
use Rattle.std.proofs.lemmas.Bool.Decides.{nat_tests}
use Rattle.std.proofs.lemmas.List.FromFn.{map-range_with_len_more}

-- ---- what holds of each

pub all_append : {X : Type 0} → (P : X → Type 0) (xs ys : List X) → AllByRecursion P xs → AllByRecursion P ys → AllByRecursion P (xs ++ ys)
all_append P [] ys a b = b
all_append P (x ∷ xs) ys a b = (a.0, all_append P xs ys a.1 b)

pub all_at : {X : Type 0} → (P : X → Type 0) (xs : List X) (i : ℕ) (x : X) → AllByRecursion P xs → slice_get xs i ≡ Some x → P x
all_at P [] i x a e = absurd cc
all_at P (y ∷ xs) zero x a e = let same : y ≡ x = cc in subst P same a.0
all_at P (y ∷ xs) (suc i) x a e = all_at P xs i x a.1 e

pub all_from : {X : Type 0} → (P : X → Type 0) (xs : List X) → ((i : ℕ) (x : X) → slice_get xs i ≡ Some x → P x) → AllByRecursion P xs
all_from P [] f = tt
all_from P (x ∷ xs) f = (f 0 x refl, all_from P xs (λ i y e. f (suc i) y e))

-- ---- elements

pub front_get : {X : Type 0} (xs ys : List X) (i : ℕ) (x : X) → slice_get xs i ≡ Some x → slice_get (xs ++ ys) i ≡ Some x
front_get [] ys i x e = absurd cc
front_get (y ∷ xs) ys zero x e = e
front_get (y ∷ xs) ys (suc i) x e = front_get xs ys i x e

pub behind_get : {X : Type 0} (xs ys : List X) (i : ℕ) → slice_get (xs ++ ys) (length xs + i) ≡ slice_get ys i
behind_get [] ys i = let none : 0 + i ≡ i = omega arith in ap (slice_get ys) none
behind_get (x ∷ xs) ys i = let next : suc (length xs) + i ≡ suc (length xs + i) = omega arith in ap (slice_get (x ∷ (xs ++ ys))) next ∙ behind_get xs ys i

pub next_get : {X : Type 0} (x : X) (xs : List X) (i : ℕ) → slice_get (x ∷ xs) (i + 1) ≡ slice_get xs i
next_get x xs i = ap (slice_get (x ∷ xs)) (add-one i)

pub made_get : {X : Type 0} → (f : ℕ → X) (a n j : ℕ) → j < n → slice_get (map f (range_with_len a n)) j ≡ Some (f (a + j))
made_get f a zero j l = absurd (omega arith)
made_get f a (suc n) zero l = let same : a ≡ a + 0 = omega arith in ap (λ k. Some (f k)) same
made_get f a (suc n) (suc j) l = let less : j < n = omega arith in let same : (a + 1) + j ≡ a + suc j = omega arith in made_get f (a + 1) n j less ∙ ap (λ k. Some (f k)) same

-- ---- positions

pub position-cons : {X : Type 0} → (p : X → Bool) (x : X) (xs : List X) → position p (x ∷ xs) ≡ cond (p x) (Some 0) (option_map (λ i. i + 1) (position p xs))
position-cons p x xs = by (p x)
  where
    n : ℕ
    n = position_or_len p xs

    told : (b : Bool) → cond {A = Option ℕ} b (Some (1 + n)) None ≡ option_map (λ i. i + 1) (cond b (Some n) None)
    told true = let same : 1 + n ≡ n + 1 = omega arith in ap (λ k. Some k) same
    told false = refl

    by : (b : Bool) → cond {A = Option ℕ} (nat_lt (cond (not b) (1 + n) 0) (length (x ∷ xs))) (Some (cond (not b) (1 + n) 0)) None ≡ cond b (Some 0) (option_map (λ i. i + 1) (position p xs))
    by true = let less : nat_lt 0 (length (x ∷ xs)) ≡ true = grind (arith, nat_tests) in λ i. cond (less i) (Some 0) None
    by false = let same : nat_lt (1 + n) (length (x ∷ xs)) ≡ nat_lt n (length xs) = grind (arith, nat_tests) in (λ i. cond (same i) (Some (1 + n)) None) ∙ told (nat_lt n (length xs))

-- ---- some element

pub any_append : {X : Type 0} → (p : X → Bool) (xs ys : List X) → list_any p xs ≡ true → list_any p (xs ++ ys) ≡ true
any_append p [] ys e = absurd (true≢false (sym e))
any_append p (x ∷ xs) ys e = by (p x) e (any_append p xs ys)
  where
    by : (b : Bool) → (b || list_any p xs) ≡ true → (list_any p xs ≡ true → list_any p (xs ++ ys) ≡ true) → (b || list_any p (xs ++ ys)) ≡ true
    by true e f = refl
    by false e f = f e

pub any_last : {X : Type 0} → (p : X → Bool) (xs : List X) (x : X) → p x ≡ true → list_any p (xs ++ x ∷ []) ≡ true
any_last p [] x e = or_left (p x) false e
any_last p (y ∷ xs) x e = or_right (p y) (list_any p (xs ++ x ∷ [])) (any_last p xs x e)

-- ---- lists made one element after another

pub made_more : {X : Type 0} → (f : ℕ → X) (old so_far more : List X) (j : ℕ) (x : X) → so_far ≡ old ++ map f (range_with_len 0 j) → more ≡ so_far ++ x ∷ [] → x ≡ f j
    → more ≡ old ++ map f (range_with_len 0 (j + 1))
made_more f old so_far more j x before is at =
    rw (map-range_with_len_more f 0 j j (omega arith), is, before, at) (append_assoc old (map f (range_with_len 0 j)) (f j ∷ []))
