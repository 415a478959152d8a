-- What is said of a target, state by state.
use Rattle.std.specs.Prelude.{◌≡◌, ℕ, ◌<◌, ◌≤◌, Some, pos}
use Rattle.rl_arrays.specs.declared.arrays.Arrays.{Arrays}
use Rattle.rl_arrays.specs.declared.arrays.ArrayName.TheVariants as the
use Rattle.rl_arrays.specs.Words.{IfAt}
use Rattle.rl_arrays.specs.Sizes.{has, due, uses_of, entries_of, used_cell, entries_end, IsClosing, IsIn}
use Rattle.rl_arrays.specs.Rules.{IsState, TargetOf}

-- what is said of a target alone, whatever states use its cell
pub record IsTarget (a : Arrays) (e : ℕ) : Type 0 where
  pub there : e < has a the.TransTargs
  pub due : e < due a the.TransTargs
  pub state : IfAt a.trans_targs e (IsState a)
  pub closing : IfAt a.trans_targs e (λ target. IsClosing (entries_end a) e → target ≡ pos 0)

-- where the entry is one of the cell, its target fits the state
pub record CellFits (a : Arrays) (s cell e : ℕ) : Type 0 where
  pub fits : IsIn (entries_of a) cell e → IfAt a.trans_targs e (TargetOf a s)

-- the same for the cells of uses from a place on
pub record UsesFit (a : Arrays) (s from to e : ℕ) : Type 0 where
  pub each : (place cell : ℕ) → from ≤ place → place < to → used_cell a place ≡ Some (pos cell) → CellFits a s cell e

-- the same for the cells that the state uses
pub record StateFits (a : Arrays) (s e : ℕ) : Type 0 where
  pub each : (place cell : ℕ) → IsIn (uses_of a) s place → used_cell a place ≡ Some (pos cell) → CellFits a s cell e

-- the same for the first so many states
pub record StatesFit (a : Arrays) (n e : ℕ) : Type 0 where
  pub each : (s : ℕ) → s < n → StateFits a s e
