-- Which actions may have statements.
use Rattle.std.specs.Prelude.{◌≡◌, ℕ, Some, pos}
use Rattle.rl_arrays.specs.declared.arrays.Arrays.{Arrays}
use Rattle.rl_arrays.specs.Sizes.{uses_of, entries_of, used_cell, IsIn, IsEntryOf}
use Rattle.rl_arrays.specs.Rules.{HasKind, IsListed}

-- the action stands in no list that moves nothing
pub record MayMove (a : Arrays) (k : ℕ) : Type 0 where
  pub from : (s : ℕ) → IsListed a a.from_lists s k → ⊥
  pub to : (s : ℕ) → IsListed a a.to_lists s k → ⊥
  pub inner : (s e : ℕ) → IsEntryOf a s e → HasKind a s 1 3 → IsListed a a.trans_lists e k → ⊥

-- the action stands in no list of an entry of the cell
pub record NotInCell (a : Arrays) (k cell : ℕ) : Type 0 where
  pub each : (e : ℕ) → IsIn (entries_of a) cell e → IsListed a a.trans_lists e k → ⊥

-- and of none of the cells that the state uses
pub record NotInState (a : Arrays) (k s : ℕ) : Type 0 where
  pub each : (place cell : ℕ) → IsIn (uses_of a) s place → used_cell a place ≡ Some (pos cell) → NotInCell a k cell
