-- What is printed for a source: the tables of its machines, and the text of its printed file (this profile).
use Rattle.std.specs.Prelude.{◌≡◌, ◌⊎◌, ℕ, Bool, true, false, List, [], ◌∷◌, map, length, nat_lt, Option, Some, None, IfSome, Ok}
use Rattle.rl_io.specs.Outside.{Held}
use Rattle.rl_arrays.specs.declared.arrays.Arrays.{Arrays}
use Rattle.rl_lexical.specs.Parts.{file_parts}
use Rattle.rl_lexical.specs.declared.part.Part.{Part}
use Rattle.rl_model.specs.declared.spec.Spec.{Spec}
use Rattle.rl_model.specs.RefusedNode.{IsBuildable}
use Rattle.rl_printed.specs.Printed.{printed, marking}
use Rattle.rl_printed.specs.Reading.{AreHosts, AreSound, IsReadByMachine, first_tables}
use Rattle.rl_cread.specs.Sections.{IsRead}
use Rattle.rl_includes.specs.declared.unrolled.Stop.{Stop}
use Rattle.rl_resolve.specs.declared.answer.Runs.TheVariants.{Nobody}
use Rattle.rl_compile.specs.Sources.{Says, HasNoSpecs, IsUnbuilt}
use Rattle.rl_compile.specs.Sections.{IsMadeFor, RefusesSpecs}

-- ---- tables

-- tables are built for a machine with a `write` statement
abbrev pub is_built : Spec → Bool
is_built spec = nat_lt 0 (length spec.writes)

-- each machine that is built has tables that are made for it, none of its nodes being refused; no other has any
abbrev pub AreTables : List Spec → List (Option Arrays) → Type 0
AreTables [] [] = Unit {0}
AreTables (spec ∷ specs) (Some a ∷ tables) =
    (is_built spec ≡ true) × IsBuildable spec × IsMadeFor spec a × AreTables specs tables
AreTables (spec ∷ specs) (None ∷ tables) = (is_built spec ≡ false) × AreTables specs tables
AreTables [] (t ∷ tables) = ⊥
AreTables (spec ∷ specs) [] = ⊥

-- the first of the machines to be built that has a refused node stops so
abbrev pub FirstUnbuilt : List Spec → Stop → Type 0
FirstUnbuilt [] s = ⊥
FirstUnbuilt (spec ∷ specs) s =
    ((is_built spec ≡ true) × IsUnbuilt spec s) ⊎ ((is_built spec ≡ true → IsBuildable spec) × FirstUnbuilt specs s)

-- no node of a machine that is built is refused
abbrev pub AreBuilt : List Spec → Type 0
AreBuilt [] = Unit {0}
AreBuilt (spec ∷ specs) = (is_built spec ≡ true → IsBuildable spec) × AreBuilt specs

-- ---- the printed file

-- the text is printed for these parts of a source file with these Specs, with `#line` or without. Each machine's tables
-- are made for it. Those of a machine with a `write data` are read back from the text by the machine's name, and the first
-- that are printed where no machine is named. Neither host text before another part, nor what else is printed for a machine, has a
-- line that begins a section; in a source that is read the text behind the last block has none either
pub record IsPrintedOf (marked : Bool) (text : List ℕ) (specs : List Spec) (bytes : List ℕ) : Type 0 where
  pub parts : List Part
  pub parted : file_parts 0 text ≡ Ok parts
  pub tables : List (Option Arrays)
  pub made : AreTables specs tables
  pub is : bytes ≡ printed parts (map (marking marked) specs) tables
  pub hosts : AreHosts parts
  pub machines : AreSound (map (marking marked) specs) tables
  pub read : IsReadByMachine specs tables bytes
  pub first : IfSome (first_tables parts (map (marking marked) specs) tables) (IsRead None bytes)

-- the text is printed for the source in a file
pub record IsPrinted (held : Held) (name : List ℕ) (marked : Bool) (bytes : List ℕ) : Type 0 where
  pub text : List ℕ
  pub specs : List Spec
  pub says : Says held name Nobody text specs
  pub prints : IsPrintedOf marked text specs bytes

-- ---- why nothing is printed

-- the first refused node of the machines that are built, in order of first mention
abbrev pub HasNodeRefused : Held → List ℕ → Stop → Type 0
HasNodeRefused held name s =
    (text : List ℕ) × (specs : List Spec) × Says held name Nobody text specs × FirstUnbuilt specs s

-- the source has Specs, and no node of a machine that is built is refused
abbrev pub HasAllBuilt : Held → List ℕ → Type 0
HasAllBuilt held name = (text : List ℕ) × (specs : List Spec) × Says held name Nobody text specs × AreBuilt specs

-- why a source is not compiled, and how that leaves the store's count
abbrev pub RefusesSource : Held → List ℕ → ℕ → ℕ → Stop → Type 0
RefusesSource held name before now s =
    RefusesSpecs held name Nobody before now s ⊎ (HasNodeRefused held name s × (now ≡ before))

-- the same where `Failed` says that the store failed
abbrev pub StopsSource : Type 0 → Held → List ℕ → Stop → Type 0
StopsSource Failed held name s = HasNoSpecs Failed held name Nobody s ⊎ HasNodeRefused held name s
