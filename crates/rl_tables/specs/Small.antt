-- Bounds of sums.
use Rattle.std.specs.Prelude.{ℕ, ℤ, pos, ◌+ℤ◌, ◌≤ℤ◌, Option, IfSome}

-- the sum is not farther from 0 than n
abbrev pub IsUpTo : ℕ → Option ℤ → Type 0
IsUpTo n sum = IfSome sum (λ z. (pos 0 ≤ℤ (z +ℤ pos n)) × (z ≤ℤ pos n))
