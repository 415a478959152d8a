-- The cells and entries of a key in valid arrays.
use Rattle.std.proofs.Common.{◌≡◌, ℕ, zero, suc, ◌+◌, ◌*◌, ◌^◌, ◌<◌, ◌≤◌, Bool, true, false, nat_eq, ◌&&◌, List, [], ◌∷◌, length, Option, Some, None, refl, sym, subst, arith}
use lib.Count.{ones}
use Rattle.std.proofs.lemmas.Bool.Decides.{nat_tests}
use Rattle.std.specs.Prelude.{ℤ, bit_and, ◌==◌, if◌then◌else◌, count_ones, int_le}
use Rattle.std.specs.Option.{option_map}
use Rattle.rl_arrays.specs.TableMachine.{asked_bits, entry_number, range_of}

-- as many entries as truths of the asked conditions: of each condition one bit
entry-number-< : (bits : List ℕ) (hold : ℕ) → entry_number bits hold < 2 ^ length bits
entry-number-< [] hold = omega arith
entry-number-< (bit ∷ bits) hold = go (bit_and hold bit == 0) (entry-number-< bits hold)
  where
    go : (b : Bool) → entry_number bits hold < 2 ^ length bits → (if b then 0 else 1) + 2 * entry_number bits hold < 2 ^ suc (length bits)
    go true h = omega (arith, h)
    go false h = omega (arith, h)

-- the asked conditions of a byte are as many as its bits
agrees : ℕ → Bool
agrees zero = true
agrees (suc n) = nat_eq (length (asked_bits n)) (count_ones n) && agrees n

agrees_all : agrees 256 ≡ true
unfolding agrees ones
agrees_all = refl

both_first : (a b : Bool) → a && b ≡ true → a ≡ true
both_first true b e = refl
both_first false b e = e

both_second : (a b : Bool) → a && b ≡ true → b ≡ true
both_second true b e = e
both_second false b e = absurd (no e)
  where
    no : false ≡ true → ⊥
    no e = cc

agrees_at : (k n : ℕ) → agrees k ≡ true → n < k → length (asked_bits n) ≡ count_ones n
unfolding agrees
agrees_at zero n e h = absurd (omega arith)
agrees_at (suc k) n e h =
    let this = both_first (nat_eq (length (asked_bits k)) (count_ones k)) (agrees k) e in
    let here : length (asked_bits k) ≡ count_ones k = grind (arith, nat_tests) in
    go (nat_eq n k) refl here (λ l. agrees_at k n (both_second (nat_eq (length (asked_bits k)) (count_ones k)) (agrees k) e) l)
  where
    go : (b : Bool) → nat_eq n k ≡ b → length (asked_bits k) ≡ count_ones k → (n < k → length (asked_bits n) ≡ count_ones n) → length (asked_bits n) ≡ count_ones n
    go true f here before =
        let same : n ≡ k = grind (arith, nat_tests) in
        subst (λ m. length (asked_bits m) ≡ count_ones m) (sym same) here
    go false f here before = before (grind (arith, nat_tests))

pub bits_counted : (n : ℕ) → n < 256 → length (asked_bits n) ≡ count_ones n
bits_counted n h = agrees_at 256 n agrees_all h

pub entry_within : (asks hold : ℕ) → asks < 256 → entry_number (asked_bits asks) hold < 2 ^ count_ones asks
entry_within asks hold h = subst (λ k. entry_number (asked_bits asks) hold < 2 ^ k) (bits_counted asks h) (entry-number-< (asked_bits asks) hold)

-- a range that is found is one of the ranges
pub range-within : (key : ℤ) (ends : List ℤ) (r : ℕ) → range_of key ends ≡ Some r → 2 * r + 2 ≤ length ends
range-within key [] r e = absurd (no e)
  where
    no : None ≡ Some r → ⊥
    no e = cc
range-within key (low ∷ []) r e = absurd (no e)
  where
    no : None ≡ Some r → ⊥
    no e = cc
range-within key (low ∷ high ∷ ends) r e =
    go (int_le low key && int_le key high) refl e (λ k f. range-within key ends k f)
  where
    same_inside : (a b : ℕ) → Some a ≡ Some b → a ≡ b
    same_inside a b e = cc

    rest : ((k : ℕ) → range_of key ends ≡ Some k → 2 * k + 2 ≤ length ends) → (o : Option ℕ) → range_of key ends ≡ o → option_map (λ k. k + 1) o ≡ Some r → 2 * r + 2 ≤ suc (suc (length ends))
    rest before None f e = absurd (no e)
      where
        no : None ≡ Some r → ⊥
        no e = cc
    rest before (Some k) f e = let same = same_inside (k + 1) r e in let within = before k f in omega arith

    go : (b : Bool) → int_le low key && int_le key high ≡ b → (if b then Some 0 else option_map (λ k. k + 1) (range_of key ends)) ≡ Some r →
        ((k : ℕ) → range_of key ends ≡ Some k → 2 * k + 2 ≤ length ends) → 2 * r + 2 ≤ suc (suc (length ends))
    go true f e before = let same = same_inside 0 r e in omega arith
    go false f e before = rest before (range_of key ends) refl e
