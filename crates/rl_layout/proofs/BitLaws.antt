-- The number of an entry says which of the asked conditions hold.
use Rattle.std.proofs.Common.{◌≡◌, ℕ, zero, suc, ◌+◌, ◌*◌, ◌^◌, ◌<◌, min, max, Bool, true, false, true≢false, cond, not, nat_eq, List, [], ◌∷◌, refl, sym, ap, ◌∙◌, arith, bit_and, bit_or, inl, inr}
use Rattle.std.specs.List.{AllByRecursion, filter}
use Rattle.std.specs.Int.{bit_at}
use Rattle.std.specs.Prelude.{length, count_ones}
use Rattle.std.proofs.Math.Nat.{pow-succ'}
use Rattle.std.proofs.lemmas.Bool.{cases_eq, eq-eqb, ne_eqb, eqb-true, agree_below_at}
use Rattle.std.proofs.lemmas.Bool.Decides.{same_from_decides, Decides-eqb, Decides-like}
use Rattle.std.proofs.lemmas.Nat.{pow_pos, and_le_r}
use Rattle.std.proofs.lemmas.Nat.Bits.{same_from_bits, same_from_bits_below, bit_at_and, bit_at_or, bit_at-lt, and_pow}
use Rattle.rl_arrays.specs.TableMachine.{asked_bits, entry_number}
use Rattle.rl_layout.proofs.ListLaws.{of_filter, chosen}

-- ---- masks

max_self : (a : ℕ) → max a a ≡ a
max_self a = omega arith

pub or_self : (a : ℕ) → bit_or a a ≡ a
or_self a = same_from_bits _ _ (λ i. bit_at_or a a i ∙ max_self (bit_at a i))

-- ---- one test after another

-- the bit is in both numbers or in none
abbrev SameAt : ℕ → ℕ → ℕ → Type 0
SameAt t h bit = nat_eq (bit_and t bit) 0 ≡ nat_eq (bit_and h bit) 0

twos : (a b : Bool) (r s : ℕ) → cond a 0 1 + 2 * r ≡ cond b 0 1 + 2 * s → (a ≡ b) × (r ≡ s)
twos true true r s e = (refl, omega arith)
twos true false r s e = absurd (omega arith)
twos false true r s e = absurd (omega arith)
twos false false r s e = (refl, omega arith)

tests_same : (bits : List ℕ) (t h : ℕ) → entry_number bits t ≡ entry_number bits h → AllByRecursion (SameAt t h) bits
tests_same [] t h e = tt
tests_same (b ∷ bits) t h e = let p = twos (nat_eq (bit_and t b) 0) (nat_eq (bit_and h b) 0) (entry_number bits t) (entry_number bits h) e in (p.0, tests_same bits t h p.1)

number_same : (bits : List ℕ) (t h : ℕ) → AllByRecursion (SameAt t h) bits → entry_number bits t ≡ entry_number bits h
number_same [] t h a = refl
number_same (b ∷ bits) t h a = λ i. cond (a.0 i) 0 1 + 2 * number_same bits t h a.1 i

-- ---- one bit

-- the mask has the bit
abbrev HasBit : ℕ → ℕ → Type 0
HasBit asks bit = not (nat_eq (bit_and asks bit) 0) ≡ true

-- a bit times a power is 0 where the bit is
times_zero : (x p : ℕ) → x < 2 → 0 < p → nat_eq (x * p) 0 ≡ nat_eq x 0
times_zero x p small positive = elim (cases_eq x 0) [
  | inl z ↦ let none : zero * p ≡ 0 = omega arith in (λ i. nat_eq (z i * p) 0) ∙ (λ i. nat_eq (none i) 0) ∙ sym (λ i. nat_eq (z i) 0)
  | inr n ↦
      let one : x ≡ 1 = omega arith in
      let more : 1 * p ≡ p = omega arith in
      (λ i. nat_eq (one i * p) 0) ∙ (λ i. nat_eq (more i) 0) ∙ ne_eqb p 0 (λ e. omega arith) ∙ sym (λ i. nat_eq (one i) 0)
]

bit_test : (n k : ℕ) → nat_eq (bit_and n (2 ^ k)) 0 ≡ nat_eq (bit_at n k) 0
bit_test n k = (λ i. nat_eq (and_pow n k i) 0) ∙ times_zero (bit_at n k) (2 ^ k) (bit_at-lt n k) (pow_pos k)

mins : (x y z : ℕ) → x < 2 → y < 2 → z < 2 → x ≡ min x z → (z ≡ 1 → nat_eq x 0 ≡ nat_eq y 0) → min y z ≡ x
mins x y z a b c e same = elim (cases_eq z 0) [
  | inl none ↦ omega arith
  | inr some ↦
      let one : z ≡ 1 = omega arith in
      elim (cases_eq x 0) [
        | inl zx ↦ let zy : y ≡ 0 = eqb-true y 0 (sym (same one) ∙ eq-eqb x 0 zx) in omega arith
        | inr nx ↦ elim (cases_eq y 0) [
          | inl zy ↦ let zx : x ≡ 0 = eqb-true x 0 (same one ∙ eq-eqb y 0 zy) in omega arith
          | inr ny ↦ omega arith
        ]
      ]
]

-- where the tests are the same at a bit that is asked, truths that are all asked have the bits of those that are seen through the mask
bit_same : (asks t h k : ℕ) → bit_and t asks ≡ t → (HasBit asks (2 ^ k) → SameAt t h (2 ^ k)) → bit_at (bit_and h asks) k ≡ bit_at t k
bit_same asks t h k inside same = bit_at_and h asks k ∙ mins (bit_at t k) (bit_at h k) (bit_at asks k) (bit_at-lt t k) (bit_at-lt h k) (bit_at-lt asks k) seen tested
  where
    seen : bit_at t k ≡ min (bit_at t k) (bit_at asks k)
    seen = sym (ap (λ n. bit_at n k) inside) ∙ bit_at_and t asks k

    tested : bit_at asks k ≡ 1 → nat_eq (bit_at t k) 0 ≡ nat_eq (bit_at h k) 0
    tested one = sym (bit_test t k) ∙ same ((λ i. not (bit_test asks k i)) ∙ (λ i. not (nat_eq (one i) 0))) ∙ bit_test h k

-- ---- the entry

masked_same : (asks t h : ℕ) → asks < 256 → bit_and t asks ≡ t → entry_number (asked_bits asks) t ≡ entry_number (asked_bits asks) h → bit_and h asks ≡ t
masked_same asks t h small inside same = same_from_bits_below 8 (bit_and h asks) t below below_too bits
  where
    tests : AllByRecursion (λ bit. HasBit asks bit → SameAt t h bit) (1 ∷ 2 ∷ 4 ∷ 8 ∷ 16 ∷ 32 ∷ 64 ∷ 128 ∷ [])
    tests = of_filter (λ bit. not (nat_eq (bit_and asks bit) 0)) (SameAt t h) (1 ∷ 2 ∷ 4 ∷ 8 ∷ 16 ∷ 32 ∷ 64 ∷ 128 ∷ []) (tests_same (asked_bits asks) t h same)

    below : bit_and h asks < 2 ^ 8
    below = let le = and_le_r h asks in omega (arith, le)

    below_too : t < 2 ^ 8
    below_too = let le = and_le_r t asks in omega (arith, le)

    bits : (i : ℕ) → i < 8 → bit_at (bit_and h asks) i ≡ bit_at t i
    bits zero l = bit_same asks t h 0 inside tests.0
    bits (suc zero) l = bit_same asks t h 1 inside tests.1.0
    bits (suc (suc zero)) l = bit_same asks t h 2 inside tests.1.1.0
    bits (suc (suc (suc zero))) l = bit_same asks t h 3 inside tests.1.1.1.0
    bits (suc (suc (suc (suc zero)))) l = bit_same asks t h 4 inside tests.1.1.1.1.0
    bits (suc (suc (suc (suc (suc zero))))) l = bit_same asks t h 5 inside tests.1.1.1.1.1.0
    bits (suc (suc (suc (suc (suc (suc zero)))))) l = bit_same asks t h 6 inside tests.1.1.1.1.1.1.0
    bits (suc (suc (suc (suc (suc (suc (suc zero))))))) l = bit_same asks t h 7 inside tests.1.1.1.1.1.1.1.0
    bits (suc (suc (suc (suc (suc (suc (suc (suc i)))))))) l = absurd (omega arith)

-- a bit that is asked is seen through the mask
seen_through : (asks h k : ℕ) → HasBit asks (2 ^ k) → SameAt (bit_and h asks) h (2 ^ k)
seen_through asks h k has = bit_test (bit_and h asks) k ∙ (λ i. nat_eq (bit_at_and h asks k i) 0) ∙ (λ i. nat_eq (whole i) 0) ∙ sym (bit_test h k)
  where
    one : bit_at asks k ≡ 1
    one = elim (cases_eq (bit_at asks k) 0) [
      | inl z ↦ absurd (true≢false (sym has ∙ (λ i. not (bit_test asks k i)) ∙ (λ i. not (nat_eq (z i) 0))))
      | inr n ↦ let small = bit_at-lt asks k in omega (arith, small)
    ]

    whole : min (bit_at h k) (bit_at asks k) ≡ bit_at h k
    whole = let small = bit_at-lt h k in omega (arith, small, one)

number_masked : (asks h : ℕ) → entry_number (asked_bits asks) (bit_and h asks) ≡ entry_number (asked_bits asks) h
number_masked asks h = number_same (asked_bits asks) (bit_and h asks) h seen_all
  where
    p : ℕ → Bool
    p bit = not (nat_eq (bit_and asks bit) 0)

    one : (bit : ℕ) (rest : List ℕ) → (HasBit asks bit → SameAt (bit_and h asks) h bit) → AllByRecursion (SameAt (bit_and h asks) h) (filter p rest) → AllByRecursion (SameAt (bit_and h asks) h) (filter p (bit ∷ rest))
    one bit rest a others = chosen p (SameAt (bit_and h asks) h) bit rest (p bit) refl a others

    seen_all : AllByRecursion (SameAt (bit_and h asks) h) (asked_bits asks)
    seen_all =
        one 1 (2 ∷ 4 ∷ 8 ∷ 16 ∷ 32 ∷ 64 ∷ 128 ∷ []) (seen_through asks h 0)
        (one 2 (4 ∷ 8 ∷ 16 ∷ 32 ∷ 64 ∷ 128 ∷ []) (seen_through asks h 1)
        (one 4 (8 ∷ 16 ∷ 32 ∷ 64 ∷ 128 ∷ []) (seen_through asks h 2)
        (one 8 (16 ∷ 32 ∷ 64 ∷ 128 ∷ []) (seen_through asks h 3)
        (one 16 (32 ∷ 64 ∷ 128 ∷ []) (seen_through asks h 4)
        (one 32 (64 ∷ 128 ∷ []) (seen_through asks h 5)
        (one 64 (128 ∷ []) (seen_through asks h 6)
        (one 128 [] (seen_through asks h 7) tt)))))))

-- truths that are all asked have the number of those that hold exactly where they are what is seen through the mask
pub same_entry : (asks t h : ℕ) → asks < 256 → bit_and t asks ≡ t → nat_eq (entry_number (asked_bits asks) t) (entry_number (asked_bits asks) h) ≡ nat_eq (bit_and h asks) t
same_entry asks t h small inside = same_from_decides _ _ (Decides-eqb (entry_number (asked_bits asks) t) (entry_number (asked_bits asks) h))
    (Decides-like (nat_eq (bit_and h asks) t) (λ e. ap (entry_number (asked_bits asks)) (sym e) ∙ number_masked asks h) (masked_same asks t h small inside) (Decides-eqb (bit_and h asks) t))

-- ---- how many entries there are

entry_below : (bits : List ℕ) (h : ℕ) → entry_number bits h < 2 ^ length bits
entry_below [] h = omega arith
entry_below (b ∷ bits) h = let rest = entry_below bits h in let twice = pow-succ' 2 (length bits) in at (nat_eq (bit_and h b) 0) (entry_number bits h) (2 ^ length bits) (2 ^ suc (length bits)) rest twice
  where
    at : (t : Bool) (e n m : ℕ) → e < n → m ≡ 2 * n → cond t 0 1 + 2 * e < m
    at true e n m l t = omega arith
    at false e n m l t = omega arith

bits_counted : (asks : ℕ) → asks < 256 → length (asked_bits asks) ≡ count_ones asks
unfolding lib.Count.ones
bits_counted asks small = eqb-true (length (asked_bits asks)) (count_ones asks) (agree_below_at (λ n. nat_eq (length (asked_bits n)) (count_ones n)) (λ n. true) 256 asks refl small)

-- a cell has an entry for all truths
pub entry_within : (asks h : ℕ) → asks < 256 → entry_number (asked_bits asks) h < 2 ^ count_ones asks
entry_within asks h small = let below = entry_below (asked_bits asks) h in let same : 2 ^ length (asked_bits asks) ≡ 2 ^ count_ones asks = ap (λ n. 2 ^ n) (bits_counted asks small) in omega (arith, below, same)
