-- Places before the closing element.
use Rattle.std.specs.Prelude.{ℕ, ℤ, pos, ◌<ℤ◌, Option, IsSomeAnd}

-- the place is before the one behind all
abbrev pub IsInside : Option ℤ → ℕ → Type 0
IsInside end place = IsSomeAnd end (λ sum. pos place <ℤ sum)
