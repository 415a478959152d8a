-- The form of leaves: which ranges they have.
use Rattle.std.specs.Prelude.{◌≤◌, IsTrue, ◌&&◌, ℤ, pos, ◌+ℤ◌, ◌≤ℤ◌, MatchOption, List, [], ◌∷◌, length, All}
use Rattle.rl_types.specs.declared.alphabet.Alphabet.{Alphabet}
use Rattle.rl_types.specs.Alphabet.{least_key, has_key}
use Rattle.rl_types.specs.KeyRange.{Range}
use Rattle.rl_draft.specs.declared.expression.Item.{Item}
use Rattle.rl_draft.specs.declared.expression.Leaf.{Leaf}
use Rattle.rl_draft.specs.declared.expression.Leaf.TheVariants as leaf

-- the ranges ascend from a key on, each more than one key behind the one before
abbrev pub Ascend : ℤ → List Range → Type 0
Ascend low [] = Unit {0}
Ascend low (r ∷ rs) = (low ≤ℤ r.lo) × (r.lo ≤ℤ r.hi) × Ascend (r.hi +ℤ pos 2) rs

-- both ends of the range are keys of the alphabet
abbrev pub IsInAlphabet : Alphabet → Range → Type 0
IsInAlphabet alphabet r = IsTrue (has_key alphabet r.lo && has_key alphabet r.hi)

-- the ranges of one character: they ascend, neither overlap nor adjoin, lie in the alphabet, and are at most 256
pub record AreRanges (alphabet : Alphabet) (rs : List Range) : Type 0 where
  pub ascend : Ascend (least_key alphabet) rs
  pub within : All (IsInAlphabet alphabet) rs
  pub few : length rs ≤ 256

abbrev pub IsItem : Alphabet → Item → Type 0
IsItem alphabet item = MatchOption item.ranges (Unit {0}) (AreRanges alphabet)

-- the ranges of a leaf have their form
abbrev pub IsLeaf : Alphabet → Leaf → Type 0
IsLeaf alphabet (leaf.Set rs) = AreRanges alphabet rs
IsLeaf alphabet leaf.Null = Unit {0}
IsLeaf alphabet leaf.Nothing = Unit {0}
IsLeaf alphabet (leaf.Row items) = All (IsItem alphabet) items
