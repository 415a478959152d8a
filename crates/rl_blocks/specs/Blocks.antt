-- What is read of an input, block by block.
use Rattle.std.specs.Prelude.{◌≡◌, ℕ, ◌<◌, ◌≤◌, ◌↔◌, List, [], take, drop, length, Option, Some, None}

-- the first n of the bytes that were left stand at the front of a block, and the others are left; there is none exactly
-- at the end of the input
pub record IsNextBlock (left : List ℕ) (after : Option (List ℕ)) (n : ℕ) (block : List ℕ) : Type 0 where
  pub enough : n ≤ length left
  pub front : take n block ≡ take n left
  pub rest : after ≡ Some (drop n left)
  pub end : (n ≡ 0) ↔ (left ≡ [])

-- the same of a source that may not tell what is left
abbrev pub TakesBlock : Option (List ℕ) → Option (List ℕ) → ℕ → List ℕ → Type 0
TakesBlock None after n block = Unit {0}
TakesBlock (Some left) after n block = IsNextBlock left after n block

-- more than so many bytes are left, where that is told
abbrev pub IsLonger : Option (List ℕ) → ℕ → Type 0
IsLonger None most = Unit {0}
IsLonger (Some left) most = most < length left
