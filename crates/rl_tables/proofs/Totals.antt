-- Sums of widths that are not negative.
use Rattle.std.proofs.Common.{◌≡◌, ℕ, zero, suc, ◌+◌, ◌-◌, ◌<◌, ◌≤◌, Option, Some, refl, arith}
use Rattle.std.specs.Prelude.{ℤ, pos}
use Rattle.rl_arrays.specs.Words.{sum_before}

-- the sum of the first so many
pub total : (ℕ → ℕ) → ℕ → ℕ
total f zero = 0
total f (suc i) = total f i + f i

pub total-suc : (f : ℕ → ℕ) (i : ℕ) → total f (i + 1) ≡ total f i + f i
unfolding total
total-suc f i = let next : i + 1 ≡ suc i = omega arith in rw next refl

pub sum-pos : (width : ℕ → Option ℤ) (f : ℕ → ℕ) (n : ℕ) → ((j : ℕ) → j < n → width j ≡ Some (pos (f j))) → (i : ℕ) → i ≤ n → sum_before width i ≡ Some (pos (total f i))
unfolding sum_before total
sum-pos width f n h zero l = refl
sum-pos width f n h (suc i) l =
    let before = sum-pos width f n h i (omega arith) in
    let this = h i (omega arith) in
    rw (before, this) refl

-- a longer sum is no smaller
pub total-≤ : (f : ℕ → ℕ) (i k : ℕ) → total f i ≤ total f (i + k)
unfolding total
total-≤ f i zero = let same : i + 0 ≡ i = omega arith in rw same (omega arith)
total-≤ f i (suc k) = let next : i + suc k ≡ suc (i + k) = omega arith in let before = total-≤ f i k in rw next (omega arith)

pub total-< : (f : ℕ → ℕ) (i n : ℕ) → i < n → total f i + f i ≤ total f n
total-< f i n h =
    let one = total-suc f i in
    let far = total-≤ f (i + 1) (n - (i + 1)) in
    let same : (i + 1) + (n - (i + 1)) ≡ n = omega arith in
    let whole : total f (i + 1) ≤ total f n = rw same at far in
    omega arith
