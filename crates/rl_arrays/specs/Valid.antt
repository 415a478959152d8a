-- Which arrays are valid, and at which element the others fail first.
use Rattle.std.specs.Prelude.{◌≡◌, ℕ, ◌<◌, ◌⊎◌, max, Option, Some, None, IfSome, slice_get}
use Rattle.rl_arrays.specs.declared.arrays.Arrays.{Arrays}
use Rattle.rl_arrays.specs.declared.arrays.ArrayName.{ArrayName}
use Rattle.rl_arrays.specs.declared.arrays.ArrayName.TheVariants as the
use Rattle.rl_arrays.specs.declared.arrays.BadValue.{BadValue}
use Rattle.rl_arrays.specs.declared.arrays.TheConstants.{ORDER}
use Rattle.rl_arrays.specs.Words.{IsBetween, IsFirstWrong}
use Rattle.rl_arrays.specs.Sizes.{has, due}
use Rattle.rl_arrays.specs.Rules.{Says}

-- an element is right: it is there, it is due, and what is said of it holds
pub record Right (a : Arrays) (array : ArrayName) (i : ℕ) : Type 0 where
  pub there : i < has a array
  pub due : i < due a array
  pub says : Says a array i

-- how many indexes are looked at: those that the array has, and those that are due
abbrev pub span : Arrays → ArrayName → ℕ
span a array = max (has a array) (due a array)

-- the first index of the array that is not right, or none
abbrev pub FirstWrong : Arrays → ArrayName → Option ℕ → Type 0
FirstWrong a array index = IsFirstWrong (span a array) (Right a array) index

-- the version is one that there is
abbrev pub IsVersioned : Arrays → Type 0
IsVersioned a = IsBetween 1 2 a.version

pub record Valid (a : Arrays) : Type 0 where
  pub version : IsVersioned a
  pub each : (array : ArrayName) → FirstWrong a array None

-- the arrays before a place of their order are right
abbrev pub SoundBefore : Arrays → ℕ → Type 0
SoundBefore a place = (k : ℕ) → k < place → IfSome (slice_get ORDER k) (λ array. FirstWrong a array None)

-- the first element that is not right, array by array and index by index
pub record IsFirstBad (a : Arrays) (bad : BadValue) : Type 0 where
  pub version : IsVersioned a
  pub place : ℕ
  pub array : slice_get ORDER place ≡ Some bad.array
  pub index : FirstWrong a bad.array (Some bad.index)
  pub before : SoundBefore a place

-- a version that there is not is told at the states of entries, before all else
pub record HasNoVersion (a : Arrays) (bad : BadValue) : Type 0 where
  pub version : IsVersioned a → ⊥
  pub told : bad ≡ record { array = the.EntryStates; index = 0 }

-- what is told of arrays that are not valid
abbrev pub IsBad : Arrays → BadValue → Type 0
IsBad a bad = HasNoVersion a bad ⊎ IsFirstBad a bad
