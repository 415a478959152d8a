-- The tables and the data section of a machine of a source (this profile).
use Rattle.std.specs.Prelude.{◌≡◌, ◌⊎◌, ℕ, List, Option, Some, None}
use denote.Ref.{Bor}
use Rattle.rl_io.specs.Outside.{Held, Rose}
use Rattle.rl_arrays.specs.declared.arrays.Arrays.{Arrays}
use Rattle.rl_arrays.specs.Section.{section}
use Rattle.rl_arrays.specs.Valid.{Valid}
use Rattle.rl_cdata.specs.Printed.{IsReadBack}
use Rattle.rl_model.specs.declared.spec.Spec.{Spec}
use Rattle.rl_model.specs.Specification.{specification_of}
use Rattle.rl_model.specs.Trees.{HasHonestTests}
use Rattle.rl_make.specs.Named.{NamesUsed}
use Rattle.rl_make.specs.Twins.{RunsAs}
use Rattle.rl_make.specs.Writes.{WritesAs, condition_names, entry_names}
use Rattle.rl_script.specs.TableNames.{names_in}
use Rattle.rl_includes.specs.declared.unrolled.Stop.{Stop}
use Rattle.rl_includes.specs.declared.unrolled.Stop.TheVariants as stop
use Rattle.rl_resolve.specs.declared.answer.Runs.{Runs}
use Rattle.rl_resolve.specs.declared.answer.Runs.TheVariants as runs
use Rattle.rl_compile.specs.Sources.{HasSource, StopsAtText, IsUnresolved, HasNoTables}
use Rattle.rl_compile.specs.declared.fault.CompileFault.{CompileFault}
use Rattle.rl_compile.specs.declared.fault.CompileFault.TheVariants as faults

-- ---- tables

-- arrays are made for a Spec: they are valid, make the runs that its expressions make, and write what these write, for which
-- there are honest tests; they have the names of its entries and conditions, and of the actions that are used
pub record IsMadeFor (spec : Spec) (a : Arrays) : Type 0 where
  pub valid : Valid a
  pub runs : RunsAs spec a
  pub writes : WritesAs spec a
  pub tests : HasHonestTests (specification_of spec)
  pub entries : (names_in a).entries ≡ entry_names spec
  pub actions : NamesUsed spec a
  pub conditions : (names_in a).conditions ≡ condition_names spec

-- the bytes are the section of these arrays, and spell them where they stand between host texts
pub record IsSectionOf (a : Arrays) (bytes : List ℕ) : Type 0 where
  pub text : bytes ≡ section a
  pub read : IsReadBack bytes a

-- a text is the section of arrays that are made for a Spec
pub record IsSectionFor (spec : Spec) (bytes : List ℕ) : Type 0 where
  pub arrays : Arrays
  pub made : IsMadeFor spec arrays
  pub section : IsSectionOf arrays bytes

-- the text is a section for the machine of the source that runs
pub record IsSectionIn (held : Held) (name : List ℕ) (which : Runs) (bytes : List ℕ) : Type 0 where
  pub source : Spec
  pub has : HasSource held name which source
  pub section : IsSectionFor source bytes

-- the machine of a name runs; without one the first
abbrev pub runs_of : Option (Bor (List ℕ)) → Runs
runs_of None = runs.First
runs_of (Some name) = runs.Named name

-- ---- refusals, and how they leave the store's count. Where it did not rise, the store failed at no file

-- why a source has no Specs
abbrev pub RefusesSpecs : Held → List ℕ → Runs → ℕ → ℕ → Stop → Type 0
RefusesSpecs held name which before now (stop.StoreFailed file) =
    Rose before now × ((file ≡ name) ⊎ IsUnresolved (Rose before now) held name which (stop.StoreFailed file))
RefusesSpecs held name which before now s =
    (StopsAtText held name s × (now ≡ before)) ⊎ IsUnresolved (Rose before now) held name which s

-- why a call on a source is refused: as the source stops, or for want of memory
abbrev pub Because : (Stop → Type 0) → CompileFault → Type 0
Because Stops (faults.Fault fault file) = Stops (stop.Fault fault file)
Because Stops (faults.Limit limit file) = Stops (stop.Limit limit file)
Because Stops (faults.Missing file) = Stops (stop.Missing file)
Because Stops (faults.StoreFailed file) = Stops (stop.StoreFailed file)
Because Stops faults.Memory = Unit {0}

-- why a source has no section
abbrev pub RefusesSection : Held → List ℕ → Runs → ℕ → ℕ → Stop → Type 0
RefusesSection held name which before now s =
    RefusesSpecs held name which before now s ⊎ (HasNoTables held name which s × (now ≡ before))
