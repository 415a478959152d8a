-- The values of a section as it stands.
use Rattle.std.specs.Prelude.{◌≡◌, ℕ, ◌+◌, ℤ, List, IsSomeAnd, slice_get}
use Rattle.rl_arrays.specs.Words.{IfAt}
use Rattle.rl_arrays.specs.declared.arrays.Arrays.{Arrays}
use Rattle.rl_arrays.specs.Valid.{Valid}
use Rattle.rl_cread.specs.declared.fault.TableFault.{TableFault}
use Rattle.rl_cread.specs.declared.fault.TableFault.TheVariants as the
use Rattle.rl_cread.specs.declared.raw.Raw.{Raw}
use Rattle.rl_cread.specs.Sections.{AreEntries, IsFirstBad}

-- the entry line at an index says the name of that entry, and its state where the element that has it is there
abbrev pub IsEntryAt : List (List ℕ × ℤ) → List (List ℕ) → List ℤ → ℕ → Type 0
IsEntryAt lines names states i =
    IsSomeAnd (slice_get lines i) (λ entry.
    IsSomeAnd (slice_get names (i + 1)) (λ name. entry.0 ≡ name) × IfAt states (i + 1) (λ state. entry.1 ≡ state))

-- the arrays of the section, which are valid, and its entry lines are theirs
pub record IsSound (raw : Raw) (a : Arrays) : Type 0 where
  pub same : a ≡ raw.arrays
  pub valid : Valid a
  pub agree : AreEntries raw.arrays raw.entries

-- its first element that is not right
abbrev pub IsUnsound : Raw → TableFault → Type 0
IsUnsound raw (the.BadValue bad) = IsFirstBad raw.arrays raw.entries bad
IsUnsound raw fault = ⊥
