-- Tests of keys: what they say of order, and whether a range has a key.
use Rattle.std.proofs.Common.{◌≡◌, Bool, true, false, cond, ◌&&◌, ◌||◌, ◌⊎◌, ℤ, pos, ◌+ℤ◌, ◌≤ℤ◌, ◌<ℤ◌, int_le, int_lt, refl, sym, ap, ◌∙◌, inl, inr, arith}
use Rattle.std.proofs.lemmas.Int.{ints, by_lt_z}
use Rattle.std.proofs.lemmas.Bool.{and_parts, and_from, and_cases, and_left, and_right}
use Rattle.rl_types.specs.KeyRange.{Range, in_range}

pub le_to : (x k : ℤ) → x ≤ℤ k → int_le x k ≡ true
le_to x k h = grind (arith, ints)

pub le_from : (x k : ℤ) → int_le x k ≡ true → x ≤ℤ k
le_from x k h = grind (arith, ints)

pub not_le : (x k : ℤ) → k <ℤ x → int_le x k ≡ false
not_le x k h = grind (arith, ints)

pub above : (x k : ℤ) → int_le x k ≡ false → k <ℤ x
above x k h = grind (arith, ints)

pub lt_from : (x k : ℤ) → int_lt x k ≡ true → x <ℤ k
lt_from x k h = grind (arith, ints)

pub not_lt : (x k : ℤ) → int_lt x k ≡ false → k ≤ℤ x
not_lt x k h = grind (arith, ints)

same : (q key : ℤ) → q ≤ℤ key → key ≤ℤ q → q ≡ key
same q key a b = omega (arith, ints)

-- a key is below another one, the same, or above it
pub order : (q key : ℤ) → (q <ℤ key) ⊎ ((q ≡ key) ⊎ (key <ℤ q))
order q key = by_lt_z q key (λ h. inl h) (λ h. inr (by_lt_z key q (λ l. inr l) (λ l. inl (same q key l h))))

pub inside : (q : ℤ) (r : Range) → r.lo ≤ℤ q → q ≤ℤ r.hi → in_range q r ≡ true
inside q r a b = and_from (int_le r.lo q) (int_le q r.hi) (le_to r.lo q a) (le_to q r.hi b)

pub within : (q : ℤ) (r : Range) → in_range q r ≡ true → (r.lo ≤ℤ q) × (q ≤ℤ r.hi)
within q r h =
    let parts = and_parts (int_le r.lo q) (int_le q r.hi) h in
    (le_from r.lo q parts.0, le_from q r.hi parts.1)

pub below : (q : ℤ) (r : Range) → q <ℤ r.lo → in_range q r ≡ false
below q r h = and_left (int_le r.lo q) (int_le q r.hi) (not_le r.lo q h)

pub behind : (q : ℤ) (r : Range) → r.hi <ℤ q → in_range q r ≡ false
behind q r h = and_right (int_le r.lo q) (int_le q r.hi) (not_le q r.hi h)

pub outside : (q : ℤ) (r : Range) → in_range q r ≡ false → (q <ℤ r.lo) ⊎ (r.hi <ℤ q)
outside q r h = elim (and_cases (int_le r.lo q) (int_le q r.hi) h) [ inl e ↦ inl (above r.lo q e) | inr e ↦ inr (above q r.hi e) ]

-- two tests that hold alike are the same
pub alike : (x y : Bool) → (x ≡ true → y ≡ true) → (y ≡ true → x ≡ true) → x ≡ y
alike true y f g = sym (f refl)
alike false true f g = g refl
alike false false f g = refl

pub or_false : (x : Bool) → (x || false) ≡ x
or_false true = refl
or_false false = refl
