-- A list against the list that it has to be, element by element; states and pairs in order.
use Rattle.std.proofs.Common.{◌≡◌, ℕ, suc, ◌+◌, ◌-◌, ◌<◌, ◌≤◌, List, [], ◌∷◌, ◌++◌, map, IsTrue, nat_le, length, drop, get_or, drop-cons, ap, sym, ◌∙◌, subst, arith, add-one}
use Rattle.std.specs.List.{flat_map, range_with_len}
use Rattle.std.proofs.lemmas.Bool.Decides.{nat_tests}
use Rattle.std.proofs.Math.ListN.{drop_of_length-le}
use Rattle.rl_certificate.specs.Certificates.{pairs_with, pairs_of}
use Rattle.rl_certificate.specs.Orders.{pairs_from}

module _ {X Y : Type 0} (f : X → Y) (xs : List X) (all : List Y) where
  -- the whole list is right exactly where what is left of it at the i-th element is
  pub record IsLeft (i : ℕ) (rest : List Y) : Type 0 where
    pub from : map f xs ≡ all → map f (drop i xs) ≡ rest
    pub to : map f (drop i xs) ≡ rest → map f xs ≡ all

  front : (i : ℕ) (x : X) → i < length xs → x ≡ get_or xs i x → map f (drop i xs) ≡ f x ∷ map f (drop (i + 1) xs)
  front i x h e =
      ap (map f) (drop-cons xs i x h)
      ∙ ap (λ w. f w ∷ map f (drop (suc i) xs)) (sym e)
      ∙ ap (λ w. f x ∷ map f (drop w xs)) (sym (add-one i))

  cons_tail : (y z : Y) (ys zs : List Y) → y ∷ ys ≡ z ∷ zs → ys ≡ zs
  cons_tail y z ys zs e = cc

  cons_head : (y z : Y) (ys zs : List Y) → y ∷ ys ≡ z ∷ zs → y ≡ z
  cons_head y z ys zs e = cc

  pub left_more : (i : ℕ) (x : X) (y : Y) (ys : List Y) → i < length xs → x ≡ get_or xs i x → f x ≡ y → IsLeft i (y ∷ ys) → IsLeft (i + 1) ys
  left_more i x y ys h e q l = record {
    from = λ a. cons_tail (f x) y (map f (drop (i + 1) xs)) ys (sym (front i x h e) ∙ l.from a);
    to = λ a. l.to (front i x h e ∙ ap (λ w. w ∷ map f (drop (i + 1) xs)) q ∙ ap (λ w. y ∷ w) a);
  }

  pub left_differs : (i : ℕ) (x : X) (y : Y) (ys : List Y) → i < length xs → x ≡ get_or xs i x → (f x ≡ y → ⊥) → IsLeft i (y ∷ ys) → map f xs ≡ all → ⊥
  left_differs i x y ys h e n l a = n (cons_head (f x) y (map f (drop (i + 1) xs)) ys (sym (front i x h e) ∙ l.from a))

  pub left_longer : (i : ℕ) (x : X) → i < length xs → x ≡ get_or xs i x → IsLeft i [] → map f xs ≡ all → ⊥
  left_longer i x h e l a = never (f x) (map f (drop (i + 1) xs)) (sym (front i x h e) ∙ l.from a)
    where
      never : (y : Y) (ys : List Y) → y ∷ ys ≡ [] → ⊥
      never y ys e = cc

  pub left_done : (i : ℕ) → length xs ≤ i → IsLeft i [] → map f xs ≡ all
  left_done i h l = l.to (ap (map f) (drop_of_length-le xs h))

  pub left_shorter : (i : ℕ) (y : Y) (ys : List Y) → length xs ≤ i → IsLeft i (y ∷ ys) → map f xs ≡ all → ⊥
  left_shorter i y ys h l a = never y ys (sym (ap (map f) (drop_of_length-le xs h)) ∙ l.from a)
    where
      never : (y : Y) (ys : List Y) → [] ≡ y ∷ ys → ⊥
      never y ys e = cc

  pub left_first : IsLeft 0 all
  left_first = record { from = λ a. a; to = λ a. a }

-- ---- what is left of the states and of the pairs

pub range_front : (a n : ℕ) → a < n → range_with_len a (n - a) ≡ a ∷ range_with_len (a + 1) (n - (a + 1))
range_front a n h = ap (range_with_len a) (let e : n - a ≡ suc (n - (a + 1)) = omega arith in e)

pub range_none : (a n : ℕ) → n ≤ a → range_with_len a (n - a) ≡ []
range_none a n h = ap (range_with_len a) (let e : n - a ≡ 0 = omega arith in e)

pub row_none : (n low high : ℕ) → n ≤ high → pairs_from n low high ≡ flat_map (pairs_with n) (range_with_len (suc low) (n - suc low))
row_none n low high h = ap (λ w. map (λ h. (low, h)) w ++ flat_map (pairs_with n) (range_with_len (suc low) (n - suc low))) (range_none high n h)

pub pairs_none : (n low high : ℕ) → n ≤ high → n ≤ low + 1 → pairs_from n low high ≡ []
pairs_none n low high h l = row_none n low high h ∙ ap (λ w. flat_map (pairs_with n) (range_with_len (suc low) w)) (let e : n - suc low ≡ 0 = omega arith in e)

pub pairs_front : (n low high : ℕ) → high < n → pairs_from n low high ≡ (low, high) ∷ pairs_from n low (high + 1)
pairs_front n low high h = ap (λ w. map (λ h. (low, h)) w ++ flat_map (pairs_with n) (range_with_len (suc low) (n - suc low))) (range_front high n h)

pub all_pairs : (n : ℕ) → 2 ≤ n → pairs_of n ≡ pairs_from n 1 2
all_pairs n h = ap (flat_map (pairs_with n)) (let e : n - 1 ≡ suc (n - 2) = omega arith in ap (range_with_len 1) e)

-- ---- the turns of the loops

module _ {X : Type 0} (f : X → ℕ) (xs : List X) (all : List ℕ) (n : ℕ) where
  abbrev pub IsFrom : ℕ → ℕ → Type 0
  IsFrom i a = IsLeft f xs all i (range_with_len a (n - a))

  pub states_more : (i a : ℕ) (x : X) → i < length xs → x ≡ get_or xs i x → a < n → f x ≡ a → IsFrom i a → IsFrom (i + 1) (a + 1)
  states_more i a x h e l q k = left_more f xs all i x a (range_with_len (a + 1) (n - (a + 1))) h e q (subst (IsLeft f xs all i) (range_front a n l) k)

  pub states_differ : (i a : ℕ) (x : X) → i < length xs → x ≡ get_or xs i x → a < n → (f x ≡ a → ⊥) → IsFrom i a → map f xs ≡ all → ⊥
  states_differ i a x h e l d k = left_differs f xs all i x a (range_with_len (a + 1) (n - (a + 1))) h e d (subst (IsLeft f xs all i) (range_front a n l) k)

  pub states_longer : (i a : ℕ) (x : X) → i < length xs → x ≡ get_or xs i x → n ≤ a → IsFrom i a → map f xs ≡ all → ⊥
  states_longer i a x h e l k = left_longer f xs all i x h e (subst (IsLeft f xs all i) (range_none a n l) k)

  pub states_done : (i a : ℕ) → length xs ≤ i → a ≡ n → IsFrom i a → map f xs ≡ all
  states_done i a h e k = left_done f xs all i h (subst (IsLeft f xs all i) (range_none a n (omega arith)) k)

  pub states_shorter : (i a : ℕ) → length xs ≤ i → a < n → IsFrom i a → map f xs ≡ all → ⊥
  states_shorter i a h l k = left_shorter f xs all i a (range_with_len (a + 1) (n - (a + 1))) h (subst (IsLeft f xs all i) (range_front a n l) k)

module _ {X : Type 0} (f : X → ℕ × ℕ) (xs : List X) (all : List (ℕ × ℕ)) (n : ℕ) where
  abbrev pub IsPairFrom : ℕ → ℕ → ℕ → Type 0
  IsPairFrom i low high = IsLeft f xs all i (pairs_from n low high)

  pub pairs_more : (i low high next_low next_high : ℕ) (x : X) → i < length xs → x ≡ get_or xs i x → f x ≡ (low, high) → pairs_from n low high ≡ (low, high) ∷ pairs_from n next_low next_high → IsPairFrom i low high → IsPairFrom (i + 1) next_low next_high
  pairs_more i low high next_low next_high x h e q p k = left_more f xs all i x (low, high) (pairs_from n next_low next_high) h e q (subst (IsLeft f xs all i) p k)

  pub pairs_differ : (i low high : ℕ) (x : X) → i < length xs → x ≡ get_or xs i x → high < n → (f x ≡ (low, high) → ⊥) → IsPairFrom i low high → map f xs ≡ all → ⊥
  pairs_differ i low high x h e l d k = left_differs f xs all i x (low, high) (pairs_from n low (high + 1)) h e d (subst (IsLeft f xs all i) (pairs_front n low high l) k)

  pub pairs_longer : (i low high : ℕ) (x : X) → i < length xs → x ≡ get_or xs i x → n ≤ high → n ≤ low + 1 → IsPairFrom i low high → map f xs ≡ all → ⊥
  pairs_longer i low high x h e l m k = left_longer f xs all i x h e (subst (IsLeft f xs all i) (pairs_none n low high l m) k)

  pub pairs_done : (i low high : ℕ) → length xs ≤ i → n ≤ high → n ≤ low + 1 → IsPairFrom i low high → map f xs ≡ all
  pairs_done i low high h l m k = left_done f xs all i h (subst (IsLeft f xs all i) (pairs_none n low high l m) k)

  pub pairs_shorter : (i low high : ℕ) → length xs ≤ i → high < n → IsPairFrom i low high → map f xs ≡ all → ⊥
  pairs_shorter i low high h l k = left_shorter f xs all i (low, high) (pairs_from n low (high + 1)) h (subst (IsLeft f xs all i) (pairs_front n low high l) k)

-- ---- what a test of an order says

pub leb_from : (x y : ℕ) → IsTrue (nat_le x y) → x ≤ y
leb_from x y t = grind (arith, nat_tests)

pub leb_to : (x y : ℕ) → x ≤ y → IsTrue (nat_le x y)
leb_to x y h = grind (arith, nat_tests)
