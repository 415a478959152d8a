-- What comes of a section that begins at a line.
use Rattle.std.specs.Prelude.{◌≡◌, ℕ, ◌+◌, Bool, List, drop}
use Rattle.rl_arrays.specs.declared.arrays.Arrays.{Arrays}
use Rattle.rl_arrays.specs.declared.arrays.BadValue.{BadValue}
use Rattle.rl_cread.specs.declared.fault.TableFault.{TableFault}
use Rattle.rl_cread.specs.declared.fault.TableFault.TheVariants as the
use Rattle.rl_cread.specs.declared.raw.Raw.{Raw}
use Rattle.rl_cread.specs.Sections.{IsFirstBad}
use Rattle.rl_cread.specs.Reading.{ReadsAs, StopsAt}
use Rattle.rl_cread.specs.Values.{IsSound}

-- no section goes on at this line of the text, from 1
pub record IsStopped (shared : Bool) (name : List ℕ) (lines : List (List ℕ)) (at line : ℕ) : Type 0 where
  pub place : ℕ
  pub stops : StopsAt shared name (drop (at + 1) lines) place
  pub is : line ≡ at + place + 2

abbrev pub StopsIn : Bool → List ℕ → List (List ℕ) → ℕ → TableFault → Type 0
StopsIn shared name lines at the.Memory = Unit {0}
StopsIn shared name lines at (the.BadText line) = IsStopped shared name lines at line
StopsIn shared name lines at fault = ⊥

-- the lines are those of the section of these arrays
pub record IsReadAt (shared : Bool) (name : List ℕ) (lines : List (List ℕ)) (at : ℕ) (a : Arrays) : Type 0 where
  pub raw : Raw
  pub reads : ReadsAs shared name (drop (at + 1) lines) raw
  pub sound : IsSound raw a

-- the lines are those of a section whose first wrong element this is
pub record IsBadAtValue (shared : Bool) (name : List ℕ) (lines : List (List ℕ)) (at : ℕ) (value : BadValue) : Type 0 where
  pub raw : Raw
  pub reads : ReadsAs shared name (drop (at + 1) lines) raw
  pub unsound : IsFirstBad raw.arrays raw.entries value

abbrev pub IsRefusedAt : Bool → List ℕ → List (List ℕ) → ℕ → TableFault → Type 0
IsRefusedAt shared name lines at the.Memory = Unit {0}
IsRefusedAt shared name lines at (the.BadText line) = IsStopped shared name lines at line
IsRefusedAt shared name lines at (the.BadValue value) = IsBadAtValue shared name lines at value
IsRefusedAt shared name lines at fault = ⊥
