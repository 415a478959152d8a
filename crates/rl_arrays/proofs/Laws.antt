-- Laws of sums.
use Rattle.std.proofs.Common.{◌≡◌, ℕ, suc, ◌+◌, Option, Some, refl, arith}
use Rattle.std.specs.Prelude.{ℤ, pos}
use Rattle.rl_arrays.specs.Words.{plus, sum_before}

-- no width
pub no_sum : (width : ℕ → Option ℤ) → Some (pos 0) ≡ sum_before width 0
unfolding sum_before
no_sum width = refl

-- one more width
pub sum-more : (width : ℕ → Option ℤ) (i : ℕ) → sum_before width (i + 1) ≡ plus (sum_before width i) (width i)
unfolding sum_before
sum-more width i = let next : i + 1 ≡ suc i = omega arith in rw next refl
