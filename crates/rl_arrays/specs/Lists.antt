-- The lists of actions: each is its length and then its members, one list after another.
use Rattle.std.specs.Prelude.{◌≡◌, ℕ, zero, suc, ◌+◌, ◌-◌, ◌<◌, ◌==◌, ℤ, pos, ◌≤ℤ◌, List, length, map, take, drop, if◌then◌else◌}
use Rattle.rl_arrays.specs.Words.{natural, number_at}

-- how many members are still to come behind a place, where so many were to come before it and it holds n
abbrev pub left_next : ℕ → ℕ → ℕ
left_next left n = if left == 0 then n else left - 1

-- how many members of the list that has begun are still to come before a place; a list begins where there are none
unfoldable pub left_at : List ℤ → ℕ → ℕ
left_at lists zero = 0
left_at lists (suc i) = left_next (left_at lists i) (number_at lists i)

-- the number is a place where a list begins
pub record IsList (lists : List ℤ) (number : ℤ) : Type 0 where
  pub positive : pos 0 ≤ℤ number
  pub within : natural number < length lists
  pub begins : left_at lists (natural number) ≡ 0

-- the members of the list that begins at a place
abbrev pub members : List ℤ → ℕ → List ℕ
members lists place = map natural (take (number_at lists place) (drop (place + 1) lists))
