-- The letters of an alphabet stand in order, and all are there.
use Rattle.std.proofs.Common.{◌≡◌, ℕ, zero, suc, ◌+◌, ◌<◌, ◌≤◌, ℤ, ◌<ℤ◌, List, [], ◌∷◌, ◌++◌, ◌⊎◌, map, IsTrue, refl, sym, ◌∙◌, subst, inl, inr, arith}
use Rattle.std.specs.List.{AllByRecursion, flat_map, range_with_len}
use Rattle.std.proofs.lemmas.Int.{ints}
use Rattle.rl_types.specs.declared.numbers.Key.{Key}
use Rattle.rl_types.specs.declared.alphabet.Alphabet.{Alphabet}
use Rattle.rl_types.specs.Alphabet.{has_key, keys_of}
use Rattle.rl_types.proofs.KeyLaws.{Ascend, keys_ascend, keys_to}
use Rattle.rl_types.proofs.KeyLaws as key_laws
use Rattle.rl_sets.specs.Sets.{In}
use Rattle.rl_sets.proofs.SetLaws.{In-append_cases, In-map, In-map_from, In-flat_map, In-flat_map_from}
use Rattle.rl_run.specs.Numbers.{letters_of}
use Rattle.rl_reach.proofs.WalkLaws.{in_range_from, in_range_to}

-- a lower key, or the same key and lesser truths
abbrev pub Before : Key × ℕ → Key × ℕ → Type 0
Before l k = (l.0.0 <ℤ k.0.0) ⊎ ((l.0.0 ≡ k.0.0) × (l.1 < k.1))

abbrev pub AreOrdered : List (Key × ℕ) → Type 0
AreOrdered [] = Unit {0}
AreOrdered (l ∷ ls) = ((k : Key × ℕ) → In k ls → Before l k) × AreOrdered ls

lt_lt : (x y z : ℤ) → x <ℤ y → y <ℤ z → x <ℤ z
lt_lt x y z a b = omega (arith, ints)

never_less : (x : ℤ) → x <ℤ x → ⊥
never_less x a = omega (arith, ints)

pub before_trans : (l k j : Key × ℕ) → Before l k → Before k j → Before l j
before_trans l k j (inl a) (inl b) = inl (lt_lt l.0.0 k.0.0 j.0.0 a b)
before_trans l k j (inl a) (inr b) = inl (subst (λ z. l.0.0 <ℤ z) b.0 a)
before_trans l k j (inr a) (inl b) = inl (subst (λ z. z <ℤ j.0.0) (sym a.0) b)
before_trans l k j (inr a) (inr b) = inr (a.0 ∙ b.0, let x : l.1 < k.1 = a.1 in let y : k.1 < j.1 = b.1 in omega arith)

pub never_before : (l : Key × ℕ) → Before l l → ⊥
never_before l (inl a) = never_less l.0.0 a
never_before l (inr a) = let x : l.1 < l.1 = a.1 in omega arith

ordered_append : (xs ys : List (Key × ℕ)) → AreOrdered xs → AreOrdered ys → ((x y : Key × ℕ) → In x xs → In y ys → Before x y) → AreOrdered (xs ++ ys)
ordered_append [] ys a b c = b
ordered_append (x ∷ xs) ys a b c = ((λ k i. by k (In-append_cases k xs ys i)), ordered_append xs ys a.1 b (λ u v i j. c u v (inr i) j))
  where
    by : (k : Key × ℕ) → In k xs ⊎ In k ys → Before x k
    by k (inl i) = a.0 k i
    by k (inr i) = c x k (inl refl) i

-- ---- the letters of one key

abbrev letter : Key → ℕ → Key × ℕ
letter key truths = (key, truths)

row_ordered : (key : Key) (a n : ℕ) → AreOrdered (map (letter key) (range_with_len a n))
row_ordered key a zero = tt
row_ordered key a (suc n) = (
  (λ k i.
      let p = In-map_from (letter key) k (range_with_len (a + 1) n) i in
      let r = in_range_from (a + 1) n p.0 p.1 in
      let low : a + 1 ≤ p.0 = r.0 in
      let less : a < p.0 = omega arith in
      subst (Before (letter key a)) p.2 (inr (refl, less))),
  row_ordered key (a + 1) n,
)

-- ---- the letters of some keys

abbrev at_key : ℤ → Key
at_key key = record { 0 = key }

abbrev row : ℕ → ℤ → List (Key × ℕ)
row n key = map (letter (at_key key)) (range_with_len 0 n)

abbrev rows : ℕ → List ℤ → List (Key × ℕ)
rows n keys = flat_map (row n) keys

all_in : (P : ℤ → Type 0) (keys : List ℤ) → AllByRecursion P keys → (x : ℤ) → In x keys → P x
all_in P [] a x i = absurd i
all_in P (k ∷ keys) a x (inl e) = subst P e a.0
all_in P (k ∷ keys) a x (inr i) = all_in P keys a.1 x i

rows_ordered : (n : ℕ) (keys : List ℤ) → Ascend keys → AreOrdered (rows n keys)
rows_ordered n [] a = tt
rows_ordered n (k ∷ keys) a =
    ordered_append (row n k) (rows n keys) (row_ordered (at_key k) 0 n) (rows_ordered n keys a.1) (λ x y i j.
    let p = In-map_from (letter (at_key k)) x (range_with_len 0 n) i in
    let q = In-flat_map_from (row n) y keys j in
    let r = In-map_from (letter (at_key q.0)) y (range_with_len 0 n) q.2 in
    let above : k <ℤ q.0 = all_in (λ z. k <ℤ z) keys a.0 q.0 q.1 in
    subst (λ w. Before w y) p.2 (subst (Before (letter (at_key k) p.0)) r.2 (inl above)))

row_there : (n : ℕ) (keys : List ℤ) (key : ℤ) (truths : ℕ) → In key keys → truths < n → In (letter (at_key key) truths) (rows n keys)
row_there n keys key truths i l =
    let z : 0 + truths ≡ truths = omega arith in
    In-flat_map (row n) (letter (at_key key) truths) key keys i
    (In-map (letter (at_key key)) truths (range_with_len 0 n) (subst (λ w. In w (range_with_len 0 n)) z (in_range_to 0 n truths l)))

-- ---- all letters

letters_are : (alphabet : Alphabet) → letters_of alphabet ≡ rows 256 (keys_of alphabet)
unfolding letters_of
letters_are alphabet = refl

pub letters_ordered : (alphabet : Alphabet) → AreOrdered (letters_of alphabet)
letters_ordered alphabet = subst AreOrdered (sym (letters_are alphabet)) (rows_ordered 256 (keys_of alphabet) (keys_ascend alphabet))

same_in : (keys : List ℤ) (key : ℤ) → key_laws.In key keys → In key keys
same_in [] key i = absurd i
same_in (k ∷ keys) key (inl e) = inl e
same_in (k ∷ keys) key (inr i) = inr (same_in keys key i)

pub letter_there : (alphabet : Alphabet) (key : ℤ) (truths : ℕ) → IsTrue (has_key alphabet key) → truths < 256
    → In (letter (at_key key) truths) (letters_of alphabet)
letter_there alphabet key truths h l =
    subst (λ ls. In (letter (at_key key) truths) ls) (sym (letters_are alphabet))
    (row_there 256 (keys_of alphabet) key truths (same_in (keys_of alphabet) key (keys_to alphabet key h)) l)
